use Rattle.std.proofs.Common.{arith, ◌<◌, ltb-true}
use Rattle.arrange.specs.Chosen.{narrowed_all, narrowed_left, narrowed_right}
use Rattle.arrange.specs.Passes.{passed_none, pass_left, passed_left, passed_right}
use Rattle.arrange.proofs.choose.choose.Goals as goal
use Rattle.arrange.proofs.choose.choose.Goals.{else-m-r, then-m-r}

pub loop-e-init : goal.loop-e-init
loop-e-init c = (narrowed_all c.args.run.now c.args.m c.requires.m_in_bounds, passed_none)

pub next_pivot-pivot-requires-clause-pass_bound : goal.next_pivot-pivot-requires-clause-pass_bound
next_pivot-pivot-requires-clause-pass_bound c = pass_left c.loop-e.invariant.1 (omega (arith, ltb-true))

pub loop-e-smaller : goal.loop-e-smaller
loop-e-smaller c = let left : c.loop-e.pass < 64 = pass_left c.loop-e.invariant.1 (omega (arith, ltb-true)) in omega arith

-- After a pass the half with the place m is the part, and its half of the pivots is the range.
pub loop-e-preserved : goal.loop-e-preserved
loop-e-preserved c =
    let l = c.loop-e.invariant in
    let p = c.partition-r.ensures in
    let v = c.next_pivot-pivot.ensures in
    elim c.if-m-r.branch [
      | then-m-r w ↦ rw (w.a-is, w.e-is, w.lo-is, w.top-is) (narrowed_left l.0 p w.if-m-r.true, passed_left l.1 v)
      | else-m-r w ↦ rw (w.a-is, w.e-is, w.lo-is, w.top-is) (narrowed_right l.0 p w.if-m-r.false, passed_right l.1 v)
    ]
