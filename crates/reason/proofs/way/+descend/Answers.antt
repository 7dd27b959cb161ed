use mathlib.Core.Path.{◌∙◌}
use native.Mathlib.Omega.{arith}
use Rattle.region.proofs.Signed.{back64}
use Rattle.reason.specs.Find.{found_below, found_above, found_own, side_shorter, sought_side, found_side, sought_front}
use Rattle.reason.proofs.way.+descend.Goals as goal

pub face_margin-margin-requires : goal.face_margin-margin-requires
face_margin-margin-requires t c =
    let w = c.requires in
    let below = rw (c.in-Below.is, w.same_k) at c.judge.ensures in
    record { coordinates = rw w.same_k w.sought.point.ranges; known = below.known }

pub returns-in-Below : goal.returns-in-Below
returns-in-Below t c =
    let w = c.requires in
    let below = rw (c.in-Below.is, w.same_k) at c.judge.ensures in
    found_below w.sought below (rw w.same_k at (back64 c.face_margin-margin.type_inv ∙ c.face_margin-margin.ensures))

pub returns-in-Above : goal.returns-in-Above
returns-in-Above t c =
    let w = c.requires in
    found_above w.sought (rw (c.in-Above.is, w.same_k) at c.judge.ensures)

pub returns-then-p-q : goal.returns-then-p-q
returns-then-p-q t c =
    let w = c.requires in
    let j = rw (c.in-Open.is, w.same_k) at c.judge.ensures in
    found_own w.sought j c.if-p-q.true (rw w.same_k at c.own_reason.ensures)

pub descend-requires : goal.descend-requires
descend-requires t c =
    let w = c.requires in
    let j = rw (c.in-Open.is, w.same_k) at c.judge.ensures in
    let n = c.if-p-q.false in
    let v = c.side_of-side.ensures in
    (omega (arith, c.decreases, side_shorter w.sought j n v), record { same_k = w.same_k; sought = sought_front (sought_side w.sought j n v) })

pub returns-else-p-q : goal.returns-else-p-q
returns-else-p-q t c =
    let w = c.requires in
    let j = rw (c.in-Open.is, w.same_k) at c.judge.ensures in
    found_side w.sought j c.if-p-q.false c.side_of-side.ensures c.descend.ensures
