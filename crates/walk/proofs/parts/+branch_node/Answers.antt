use Rattle.std.proofs.Common.{◌≡◌, ◌<◌, arith}
use Rattle.region.specs.Judged.{judged_below, judged_open}
use Rattle.region.specs.Live.{lives_front}
use Rattle.walk.specs.Parts.{walkable, own_held, node_placed, branch_empty, branch_inside, branch_outside, branch_alone, walkable_left, own_fits, walkable_right, branch_open}
use Rattle.walk.proofs.parts.+branch_node.Goals as goal

pub branch-returns-then-c-eq0 : goal.branch-returns-then-c-eq0
branch-returns-then-c-eq0 g t c =
    let s = c.requires in
    branch_empty _ _ _ _ _ _ _ _ (walkable g.B.Branches.laws s.same_k s.goes s.lives s.tallied).going.long c.if-c-eq0.true

pub branch-returns-in-Below : goal.branch-returns-in-Below
branch-returns-in-Below g t c =
    let s = c.requires in
    let below = rw c.in-Below.is at c.judge-judged.ensures in
    branch_outside (walkable g.B.Branches.laws s.same_k s.goes s.lives s.tallied) (judged_below below) c.copy_outside.ensures

pub branch-returns-in-Above : goal.branch-returns-in-Above
branch-returns-in-Above g t c =
    let s = c.requires in
    let above = rw c.in-Above.is at c.judge-judged.ensures in
    branch_inside (walkable g.B.Branches.laws s.same_k s.goes s.lives s.tallied) above.all c.copy_inside.ensures

pub branch-node-requires : goal.branch-node-requires
branch-node-requires g t c κs within =
    let s = c.requires in
    let some : 0 < c.args.run.length = omega (arith, c.if-c-eq0.false) in
    let j = rw c.in-Open.is at c.judge-judged.ensures in
    let w = walkable g.B.Branches.laws s.same_k s.goes s.lives s.tallied in
    (omega (arith, c.decreases), (within, (s.goes, (s.same_k, (lives_front j.lives, (s.tallied, (some, judged_open j (own_held w some))))))))

pub node-returns-then-run-eq1 : goal.node-returns-then-run-eq1
node-returns-then-run-eq1 g t c =
    let s = c.requires in
    let laws = g.B.Branches.laws in
    let some = s.length_nonzero in
    let one : c.args.run.length ≡ 1 = omega (arith, c.if-run-eq1.true) in
    let w = walkable laws s.same_k s.goes s.lives s.tallied in
    branch_alone w some one (laws.alike _ _ _ s.goes some) (laws.alone _ _ _ s.goes one) s.open (node_placed w some c.point_at-x.ensures c.inside_live-inside.ensures c.place.ensures)

pub node-branch-own-requires : goal.node-branch-own-requires
node-branch-own-requires g t c κs within =
    let s = c.requires in
    let laws = g.B.Branches.laws in
    let some = s.length_nonzero in
    let l = laws.left _ _ _ _ s.goes some c.left-left.ensures in
    let w = walkable_left (walkable laws s.same_k s.goes s.lives s.tallied) some l.1 (laws.going _ _ _ l.0) in
    (omega (arith, c.decreases, l.1.slots), (within, (l.0, (s.same_k, (w.lives, w.tallied)))))

pub node-place-requires-2-clause-inside_le_done : goal.node-place-requires-2-clause-inside_le_done
node-place-requires-2-clause-inside_le_done g t c =
    let s = c.requires in
    let laws = g.B.Branches.laws in
    let some = s.length_nonzero in
    let l = laws.left _ _ _ _ s.goes some c.left-left.ensures in
    (own_fits (walkable laws s.same_k s.goes s.lives s.tallied) some l.1 (laws.going _ _ _ l.0) c.branch-own.ensures).0

pub node-branch-branches-requires : goal.node-branch-branches-requires
node-branch-branches-requires g t c κs within =
    let s = c.requires in
    let laws = g.B.Branches.laws in
    let some = s.length_nonzero in
    let w = walkable laws s.same_k s.goes s.lives s.tallied in
    let l = laws.left _ _ _ _ s.goes some c.left-left.ensures in
    let r = laws.right _ _ _ _ s.goes some c.right-right.ensures in
    let own = node_placed w some c.point_at-x.ensures c.inside_live-inside.ensures c.place-2.ensures in
    let v = walkable_right w some l.1 (laws.going _ _ _ l.0) c.branch-own.ensures own r.1 (laws.going _ _ _ r.0) in
    (omega (arith, c.decreases, r.1.slots, some), (within, (r.0, (s.same_k, (v.lives, v.tallied)))))

pub node-returns : goal.node-returns
node-returns g t c =
    let s = c.requires in
    let laws = g.B.Branches.laws in
    let some = s.length_nonzero in
    let w = walkable laws s.same_k s.goes s.lives s.tallied in
    let l = laws.left _ _ _ _ s.goes some c.left-left.ensures in
    let r = laws.right _ _ _ _ s.goes some c.right-right.ensures in
    let own = node_placed w some c.point_at-x.ensures c.inside_live-inside.ensures c.place-2.ensures in
    branch_open w some l.1 (laws.going _ _ _ l.0) c.branch-own.ensures own r.1 (laws.going _ _ _ r.0)
    (laws.alike _ _ _ s.goes some) (laws.whole _ _ _ _ _ s.goes some c.left-left.ensures c.right-right.ensures) s.open c.branch-branches.ensures
