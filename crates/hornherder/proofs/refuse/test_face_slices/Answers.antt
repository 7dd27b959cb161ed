-- Each group gives its refusal where it refuses; where it was passed the next one does.
use Rattle.std.proofs.Common.{refl}
use Rattle.terms.specs.RefusalNumbers.{number_is, handed_on}
use Rattle.theory.specs.FirstRefusal.{no_zero}
use Rattle.hornherder.specs.First.{first_stops, first_after}
use Rattle.hornherder.proofs.refuse.test_face_slices.Goals as goal

pub returns-in_err-test_face_lengths : goal.returns-in_err-test_face_lengths
unfolding no_zero
returns-in_err-test_face_lengths c = rw (handed_on _ c.from_residual.ensures) (first_stops _ c.in_err-test_face_lengths.ensures (number_is _))

pub returns-in_err-test_face_ranges : goal.returns-in_err-test_face_ranges
unfolding no_zero
returns-in_err-test_face_ranges c = rw (handed_on _ c.from_residual-in_err-test_face_ranges.ensures) (first_after refl c.in_ok-test_face_lengths.ensures (first_stops _ c.in_err-test_face_ranges.ensures (number_is _)))

pub returns : goal.returns
unfolding no_zero
returns c = first_after refl c.in_ok-test_face_lengths.ensures (first_after refl c.in_ok-test_face_ranges.ensures c.test_marks.ensures)
