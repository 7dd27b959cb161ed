-- One number more is asked by the two comparisons that `between` makes, as the order's laws say.
use Rattle.std.proofs.Common.{refl}
use Rattle.terms.specs.Tests.{every}
use Rattle.theory.specs.Counting.{every_next}
use Rattle.hornherder.specs.Between.{between}
use Rattle.hornherder.proofs.ranges.all_within.Goals as goal

pub loop-x-init : goal.loop-x-init
unfolding every
loop-x-init g c = refl

pub loop-x-preserved : goal.loop-x-preserved
loop-x-preserved g c =
    let a = c.args in
    let x = c.x-item.result in
    let same = g.met.T.Ord.matches_partial_cmp in
    rw (every_next (between g.T.Ord.cmp a.least a.greatest) x a.numbers.now c.loop-x.x-index c.loop-x-test.true, ← c.x-item.is, ← c.loop-x.invariant)
    (rw (c.le.ensures, c.le-in-loop-x.ensures, same a.least x, same x a.greatest) refl)
