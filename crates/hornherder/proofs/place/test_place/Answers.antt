-- Each group gives its refusal where it refuses; where it was passed the next one does.
use Rattle.std.proofs.Common.{refl}
use Rattle.terms.specs.RefusalNumbers.{number_is, handed_on}
use Rattle.theory.specs.FirstRefusal.{no_zero}
use Rattle.hornherder.specs.First.{first_stops, first_after}
use Rattle.hornherder.proofs.place.test_place.Goals as goal

pub returns-in_err-test_dimension : goal.returns-in_err-test_dimension
unfolding no_zero
returns-in_err-test_dimension c = rw (handed_on _ c.from_residual.ensures) (first_stops _ c.in_err-test_dimension.ensures (number_is _))

pub returns-in_err-test_length : goal.returns-in_err-test_length
unfolding no_zero
returns-in_err-test_length c = rw (handed_on _ c.from_residual-in_err-test_length.ensures) (first_after refl c.in_ok-test_dimension.ensures (first_stops _ c.in_err-test_length.ensures (number_is _)))

pub returns-in_err-test_coordinates : goal.returns-in_err-test_coordinates
unfolding no_zero
returns-in_err-test_coordinates c = rw (handed_on _ c.from_residual-in_err-test_coordinates.ensures) (first_after refl c.in_ok-test_dimension.ensures (first_after refl c.in_ok-test_length.ensures (first_stops _ c.in_err-test_coordinates.ensures (number_is _))))

pub returns : goal.returns
unfolding no_zero
returns c = first_after refl c.in_ok-test_dimension.ensures (first_after refl c.in_ok-test_length.ensures (first_after refl c.in_ok-test_coordinates.ensures c.test_faces.ensures))
