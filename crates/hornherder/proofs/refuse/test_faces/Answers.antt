-- Each group gives its refusal where it refuses; where it was passed the next one does.
use Rattle.std.proofs.Common.{refl}
use Rattle.terms.specs.RefusalNumbers.{number_is, handed_on}
use Rattle.theory.specs.FirstRefusal.{no_zero}
use Rattle.hornherder.specs.First.{first_stops, first_after}
use Rattle.hornherder.proofs.refuse.test_faces.Goals as goal

pub returns-in_err-test_face_count : goal.returns-in_err-test_face_count
unfolding no_zero
returns-in_err-test_face_count c = rw (handed_on _ c.from_residual.ensures) (first_stops _ c.in_err-test_face_count.ensures (number_is _))

pub returns : goal.returns
unfolding no_zero
returns c = first_after refl c.in_ok-test_face_count.ensures c.test_face_slices.ensures
