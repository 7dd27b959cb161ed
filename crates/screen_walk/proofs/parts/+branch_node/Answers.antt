use mathlib.Core.Path.{sym, ◌∙◌}
use Prim.Native.Nat.{◌<◌}
use native.Mathlib.Omega.{arith}
use Rattle.terms.specs.Box.{box_of}
use Rattle.region.specs.Judged.{judged_below, judged_open}
use Rattle.region.specs.Live.{lives_front}
use Rattle.region.specs.Told.{faces_at}
use Rattle.region.proofs.Signed.{back32}
use Rattle.descent.specs.Faced.{node_told}
use Rattle.screen_walk.specs.Parts.{screenable_faced, screened_empty, screened_above, screened_below, LeftNone, own_held, left_of_alone, screenable_left, screened_by_left, left_none, seen_most, screened_by_node, screenable_right, screened_by_right}
use Rattle.screen_walk.proofs.parts.+branch_node.Goals as goal
use Rattle.screen_walk.proofs.parts.+branch_node.Goals.{node-Joined-run-ne1, node-then-run-ne1+else-is_some, node-else-run-ne1}

pub branch-returns-then-run-eq0 : goal.branch-returns-then-run-eq0
branch-returns-then-run-eq0 t c =
    let s = c.args.shelf.now in
    let r = c.args.run in
    screened_empty s.k s.points.now s.order.now (faces_at c.args.table.now) r.start r.length r.axis (box_of r.rows) c.args.visits 0 c.if-run-eq0.true

pub branch-returns-in-Below : goal.branch-returns-in-Below
branch-returns-in-Below t c =
    let below = rw (c.in-Below.is, c.requires.same_k) at c.judge.ensures in
    screened_below c.requires.screenable 0 (judged_below below)

pub branch-returns-in-Above : goal.branch-returns-in-Above
branch-returns-in-Above t c =
    let above = rw (c.in-Above.is, c.requires.same_k) at c.judge.ensures in
    screened_above c.requires.screenable (omega (arith, c.if-run-eq0.false)) above.all

pub branch-node-requires : goal.branch-node-requires
branch-node-requires t c =
    let w = c.requires in
    let some : 0 < c.args.run.length = omega (arith, c.if-run-eq0.false) in
    let j = rw (c.in-Open.is, w.same_k) at c.judge.ensures in
    (omega (arith, c.decreases), (record { same_k = w.same_k; screenable = screenable_faced w.screenable (lives_front j.lives) }, (some, rw w.same_k (judged_open j (own_held w.screenable some)))))

-- Past the left branch, which has none inside: it said so, or there is no left branch.
left_past : (t : _) (c : node-Joined-run-ne1 t)
    → let a = c.args in
    let s = a.shelf.now in
    LeftNone s.k s.points.now s.order.now (faces_at a.table.now) a.run.start a.run.length a.run.axis (box_of a.run.rows) a.visits c.if-run-ne1.seen
left_past t c =
    let s = c.requires in
    let x_is = back32 c.coordinate-split.type_inv ∙ c.coordinate-split.ensures in
    elim c.if-run-ne1.branch [
      | node-then-run-ne1+else-is_some w ↦
          rw w.seen-is (left_none s.branch_asks.screenable s.length_nonzero x_is c.next_axis-next.ensures w.left_run-left.ensures (rw (sym w.is_some.ensures ∙ w.if-is_some.false) at w.branch-first.ensures))
      | node-else-run-ne1 w ↦ rw w.seen-is (left_of_alone s.branch_asks.screenable s.length_nonzero w.if-run-ne1.false)
    ]

pub node-branch-first-requires : goal.node-branch-first-requires
node-branch-first-requires t c =
    let s = c.requires in
    let x_is = back32 c.coordinate-split.type_inv ∙ c.coordinate-split.ensures in
    let l = c.left_run-left.ensures in
    (omega (arith, c.decreases, l.slots, s.length_nonzero), record { same_k = s.branch_asks.same_k; screenable = screenable_left s.branch_asks.screenable s.length_nonzero x_is c.next_axis-next.ensures l })

pub node-returns-then-is_some : goal.node-returns-then-is_some
node-returns-then-is_some t c =
    let s = c.requires in
    let x_is = back32 c.coordinate-split.type_inv ∙ c.coordinate-split.ensures in
    let one = sym c.is_some.ensures ∙ c.if-is_some.true in
    rw one (screened_by_left s.branch_asks.screenable s.length_nonzero x_is c.next_axis-next.ensures c.left_run-left.ensures (rw one at c.branch-first.ensures))

pub node-overflow_add-seen : goal.node-overflow_add-seen
node-overflow_add-seen t c =
    let s = c.requires in
    let l = left_past t (goal.at.node-overflow_add-seen t c).Joined-run-ne1 in
    omega (arith, seen_most s.branch_asks.screenable s.length_nonzero l, s.branch_asks.screenable.seen, s.length_nonzero)

pub node-returns-then-inside_live : goal.node-returns-then-inside_live
node-returns-then-inside_live t c =
    let s = c.requires in
    let w = s.branch_asks.screenable in
    let l = left_past t (goal.at.node-returns-then-inside_live t c).Joined-run-ne1 in
    let told = node_told c.args.table.now s.branch_asks.same_k w.faced (own_held w s.length_nonzero) c.point_at-x.ensures c.inside_live.ensures in
    screened_by_node w s.length_nonzero l (rw s.branch_asks.same_k at s.rows_value) (sym told ∙ c.if-inside_live.true)

pub node-branch-shelf-requires : goal.node-branch-shelf-requires
node-branch-shelf-requires t c =
    let s = c.requires in
    let l = left_past t (goal.at.node-branch-shelf-requires t c).Joined-run-ne1 in
    let x_is = back32 c.coordinate-split.type_inv ∙ c.coordinate-split.ensures in
    let r = c.right_run-right.ensures in
    (omega (arith, c.decreases, r.slots, s.length_nonzero), record { same_k = s.branch_asks.same_k; screenable = screenable_right s.branch_asks.screenable s.length_nonzero l x_is c.next_axis-next.ensures r })

pub node-returns : goal.node-returns
node-returns t c =
    let s = c.requires in
    let w = s.branch_asks.screenable in
    let l = left_past t (goal.at.node-returns t c).Joined-run-ne1 in
    let x_is = back32 c.coordinate-split.type_inv ∙ c.coordinate-split.ensures in
    let told = node_told c.args.table.now s.branch_asks.same_k w.faced (own_held w s.length_nonzero) c.point_at-x.ensures c.inside_live.ensures in
    screened_by_right w s.length_nonzero l x_is c.next_axis-next.ensures c.right_run-right.ensures (rw s.branch_asks.same_k at s.rows_value) (sym told ∙ c.if-inside_live.false) c.branch-shelf.ensures
