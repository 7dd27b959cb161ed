-- Each group gives its refusal where it refuses; where it was passed the next one does.
use Rattle.std.proofs.Common.{refl, arith}
use Rattle.terms.specs.RefusalNumbers.{number_is, handed_on}
use Rattle.theory.specs.FirstRefusal.{no_zero}
use Rattle.theory.specs.RefusalsPassed.{face_counts_passed}
use Rattle.hornherder.specs.First.{first_stops, first_passed, first_after}
use Rattle.hornherder.proofs.list_regions.test_region_faces.Goals as goal

pub returns-in_err-test_face_counts : goal.returns-in_err-test_face_counts
unfolding no_zero
returns-in_err-test_face_counts c = rw (handed_on _ c.from_residual.ensures) (first_stops _ c.in_err-test_face_counts.ensures (number_is _))

pub returns : goal.returns
unfolding no_zero
returns c = first_after refl c.in_ok-test_face_counts.ensures (rw (c.face_total.ensures, c.requires.counted) at c.test_face_slices.ensures)

pub face_total-requires : goal.face_total-requires
unfolding no_zero
face_total-requires c = record {
  few = let w = c.requires in omega (arith, w.counted, w.most);
  by_index = face_counts_passed c.args.regions.now.face_counts.now (first_passed refl c.in_ok-test_face_counts.ensures refl);
}
