use Prim.Native.Nat.{◌<◌}
use native.Mathlib.Omega.{arith}
use borrow.Author.Rules.{rules}
use lib.ListN.{length}
use Rattle.theory.specs.RunParts.{right_length}
use Rattle.summary.specs.Shares.{none_summarised, own_within, end_summarisable, both_stored, both_back, all_back}
use Rattle.summary.specs.Shared.{part_filled}
use Rattle.summary.proofs.+fill.Goals as goal

pub returns-then-is_empty : goal.returns-then-is_empty
returns-then-is_empty t c = none_summarised _ _ (search rules) c.requires

pub fill-requires-2 : goal.fill-requires-2
fill-requires-2 t c =
    let order = c.args.slots.now.order.now in
    let some : 0 < length order = search rules in
    let s = c.share_out-from.ensures in
    let left = part_filled s.left c.fill.ensures in (
      rw s.right.order_is (omega (arith, c.decreases, right_length order)),
      rw (s.right.same_k, s.right.same_points, s.right.order_is, s.from_is, s.to_is) (end_summarisable order c.args.summary.now c.requires some left),
    )

pub branch_box-own-requires : goal.branch_box-own-requires
branch_box-own-requires t c =
    let order = c.args.slots.now.order.now in
    let some : 0 < length order = search rules in
    let s = c.share_out-from.ensures in
    let left = part_filled s.left c.fill.ensures in
    let right = part_filled s.right c.fill-2.ensures in
    rw (s.from_is, s.to_is) (both_stored order c.args.summary.now c.requires some left right)

pub slice_bounds-write_box-end : goal.slice_bounds-write_box-end
slice_bounds-write_box-end t c =
    let order = c.args.slots.now.order.now in
    let some : 0 < length order = search rules in
    let s = c.share_out-from.ensures in
    let left = part_filled s.left c.fill.ensures in
    let right = part_filled s.right c.fill-2.ensures in
    rw (s.from_is, s.to_is) (omega (arith, own_within c.requires some, both_back order c.args.summary.now c.requires some left right))

pub returns : goal.returns
returns t c =
    let order = c.args.slots.now.order.now in
    let some : 0 < length order = search rules in
    let s = c.share_out-from.ensures in
    let left = part_filled s.left c.fill.ensures in
    let right = part_filled s.right c.fill-2.ensures in
    rw (s.from_is, s.to_is) (all_back order c.args.summary.now c.requires some left right c.branch_box-own.ensures c.write_box.ensures)
