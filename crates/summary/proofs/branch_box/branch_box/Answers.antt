-- One slot has its point for its box; two have the point and the left branch's box joined; more have the right branch's too.
use Prim.Native.Nat.{◌<◌}
use native.Mathlib.Omega.{arith}
use lib.ListN.{length}
use Rattle.summary.specs.Stored.{box_by}
use Rattle.summary.specs.BranchBox.{left_read, right_read, box_alone, box_half, box_whole}
use Rattle.summary.proofs.branch_box.branch_box.Goals as goal

pub returns-then-c-eq1 : goal.returns-then-c-eq1
returns-then-c-eq1 c = box_alone c.args.slots.now.order.now c.requires c.point_at-x.ensures.same (omega (arith, c.if-c-eq1.true))

pub read_box-left-requires : goal.read_box-left-requires
read_box-left-requires c =
    -- There is a left branch, and a right branch.
    let two : 1 < length c.args.slots.now.order.now =
    omega (arith, c.if-c-eq1.false, c.requires.some) in
    box_by (left_read c.args.slots.now.order.now c.requires (two)) (omega arith)

pub returns-then-c-eq2 : goal.returns-then-c-eq2
returns-then-c-eq2 c =
    -- There is a left branch, and a right branch.
    let two : 1 < length c.args.slots.now.order.now =
    omega (arith, c.if-c-eq1.false, c.requires.some) in
    box_half c.args.slots.now.order.now c.requires c.point_at-x.ensures.same (two) c.read_box-left.ensures c.joined-half.ensures (omega (arith, c.if-c-eq2.true))

pub read_box-right-requires : goal.read_box-right-requires
read_box-right-requires c =
    -- There is a left branch, and a right branch.
    let two : 1 < length c.args.slots.now.order.now =
    omega (arith, c.if-c-eq1.false, c.requires.some) in
    let three : 2 < length c.args.slots.now.order.now =
    omega (arith, c.if-c-eq2.false, two) in
    box_by (right_read c.args.slots.now.order.now c.requires (three)) (omega arith)

pub returns : goal.returns
returns c =
    -- There is a left branch, and a right branch.
    let two : 1 < length c.args.slots.now.order.now =
    omega (arith, c.if-c-eq1.false, c.requires.some) in
    let three : 2 < length c.args.slots.now.order.now =
    omega (arith, c.if-c-eq2.false, two) in
    box_whole c.args.slots.now.order.now c.requires c.point_at-x.ensures.same (two) c.read_box-left.ensures c.joined-half.ensures (three)
    c.read_box-right.ensures c.joined.ensures
