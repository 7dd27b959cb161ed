use mathlib.Core.Bool.{not}
use mathlib.Core.Path.{sym, ap}
use Prim.Native.Nat.{◌<◌}
use native.Mathlib.Omega.{arith}
use borrow.Author.Rules.{rules}
use lib.ListN.{length}
use Rattle.theory.specs.RunParts.{right_length}
use Rattle.theory.specs.Summary.{numbers_same}
use Rattle.summary.specs.Shares.{none_summarised, own_within, right_summarisable, right_length_is, left_wrong, right_wrong, told_stored, own_tells}
use Rattle.summary.specs.Shared.{part_told}
use Rattle.summary.proofs.+is_summary.Goals as goal

pub returns-then-is_empty : goal.returns-then-is_empty
returns-then-is_empty t c = sym (numbers_same (none_summarised _ _ (search rules) c.requires))

pub returns-then-not-is_summary : goal.returns-then-not-is_summary
returns-then-not-is_summary t c =
    let order = c.args.slots.now.order.now in
    let some : 0 < length order = search rules in
    let s = c.share_out-from.ensures in
    let left = rw s.from_is at (part_told s.left _ c.is_summary.ensures) in
    left_wrong order c.args.summary.now c.requires some left (ap not c.if-not-is_summary.true)

pub is_summary-requires-2 : goal.is_summary-requires-2
is_summary-requires-2 t c =
    let order = c.args.slots.now.order.now in
    let some : 0 < length order = search rules in
    let s = c.share_out-from.ensures in (
      rw s.right.order_is (omega (arith, c.decreases, right_length order)),
      rw (s.right.same_k, s.right.same_points, s.right.order_is, s.to_is) (right_summarisable c.requires some (right_length_is order c.args.summary.now c.requires some)),
    )

pub returns-then-not-is_summary-2 : goal.returns-then-not-is_summary-2
returns-then-not-is_summary-2 t c =
    let order = c.args.slots.now.order.now in
    let some : 0 < length order = search rules in
    let s = c.share_out-from.ensures in
    let left = rw s.from_is at (part_told s.left _ c.is_summary.ensures) in
    let right = rw s.to_is at (part_told s.right _ c.is_summary-2.ensures) in
    right_wrong order c.args.summary.now c.requires some left right (ap not c.if-not-is_summary-2.true)

pub branch_box-own-requires : goal.branch_box-own-requires
branch_box-own-requires t c =
    let order = c.args.slots.now.order.now in
    let some : 0 < length order = search rules in
    let s = c.share_out-from.ensures in
    let left = rw s.from_is at (part_told s.left _ c.is_summary.ensures) in
    let right = rw s.to_is at (part_told s.right _ c.is_summary-2.ensures) in
    told_stored order c.args.summary.now c.requires some left right (ap not c.if-not-is_summary.false) (ap not c.if-not-is_summary-2.false)

pub slice_bounds-same_box-end : goal.slice_bounds-same_box-end
slice_bounds-same_box-end t c =
    let some : 0 < length c.args.slots.now.order.now = search rules in
    let s = c.share_out-from.ensures in
    rw s.to_is (own_within c.requires some)

pub returns : goal.returns
returns t c =
    let order = c.args.slots.now.order.now in
    let some : 0 < length order = search rules in
    let s = c.share_out-from.ensures in
    let left = rw s.from_is at (part_told s.left _ c.is_summary.ensures) in
    let right = rw s.to_is at (part_told s.right _ c.is_summary-2.ensures) in
    own_tells order c.args.summary.now c.requires some left right (ap not c.if-not-is_summary.false) (ap not c.if-not-is_summary-2.false) c.branch_box-own.ensures
    (rw (s.from_is, s.to_is) at c.same_box.ensures)
