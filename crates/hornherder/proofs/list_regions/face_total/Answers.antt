-- Nothing is counted at first, and each turn adds the faces of one region more.
use Rattle.std.proofs.Common.{refl, arith}
use Rattle.whole.specs.IndexedTotal.{total_to}
use Rattle.whole.proofs.IndexedTotal.{total_most, total_next}
use Rattle.terms.specs.RegionFaces.{faces_in}
use Rattle.hornherder.proofs.list_regions.face_total.Goals as goal

pub loop-count-init : goal.loop-count-init
unfolding total_to
loop-count-init c = refl

pub overflow_add-total : goal.overflow_add-total
overflow_add-total c =
    let l = c.loop-count in
    let i = l.count-index in
    omega (
      arith,
      l.invariant,
      total_most i 32 (faces_in c.args.face_counts.now) (λ r m. c.requires.by_index r (omega arith)),
      c.requires.by_index i c.loop-count-test.true,
    )

pub loop-count-preserved : goal.loop-count-preserved
loop-count-preserved c =
    let l = c.loop-count in
    omega (arith, l.invariant, total_next l.count-index (faces_in c.args.face_counts.now))
