use native.Mathlib.Omega.{arith}
use Rattle.region.specs.Judged.{judging_none, judging_cut, judging_above, judging_left, judging_done_above, judging_done_open}
use Rattle.region.proofs.judge.judge.Goals as goal
use Rattle.region.proofs.judge.judge.Goals.{then-not-wholly_above+else-wholly_below, else-not-wholly_above}

pub loop-f-init : goal.loop-f-init
loop-f-init c = judging_none _ _ _ _ _ c.told-next

pub wholly_above-requires : goal.wholly_above-requires
wholly_above-requires c = record { box_ranges = c.requires.box_ranges; known = c.requires.lives.live.each c.loop-f.f-index c.loop-f-test.true }

pub wholly_below-requires : goal.wholly_below-requires
wholly_below-requires c = record { box_ranges = c.requires.box_ranges; known = c.requires.lives.live.each c.loop-f.f-index c.loop-f-test.true }

pub bounds-next-left : goal.bounds-next-left
bounds-next-left c = omega (arith, c.requires.lives.live.few)

pub returns-then-wholly_below : goal.returns-then-wholly_below
returns-then-wholly_below c =
    judging_cut c.loop-f.invariant c.requires.lives c.loop-f-test.true c.wholly_below.ensures c.if-wholly_below.true

pub loop-f-preserved : goal.loop-f-preserved
loop-f-preserved c =
    let w = c.loop-f.invariant in
    let v = c.requires.lives in
    let says = c.wholly_above.ensures in
    elim c.if-not-wholly_above.branch [
      | then-not-wholly_above+else-wholly_below z ↦ rw (z.next-is, z.left-is) (judging_left w v c.loop-f-test.true says z.if-not-wholly_above.true z.wholly_below.ensures z.if-wholly_below.false)
      | else-not-wholly_above z ↦ rw (z.next-is, z.left-is) (judging_above w v c.loop-f-test.true says z.if-not-wholly_above.false)
    ]

pub returns-then-left-eq0 : goal.returns-then-left-eq0
returns-then-left-eq0 c =
    judging_done_above c.loop-f.invariant c.requires.lives c.loop-f-test.false (omega (arith, c.if-left-eq0.true))

pub returns : goal.returns
returns c =
    judging_done_open c.loop-f.invariant c.requires.lives c.loop-f-test.false (omega (arith, c.if-left-eq0.false))
