use mathlib.Core.Path.{sym, ◌∙◌}
use native.Mathlib.Omega.{arith}
use borrow.Author.Count.{below_more}
use Rattle.terms.specs.Points.{lone}
use Rattle.region.specs.Live.{live_inside, live_outside}
use Rattle.region.proofs.Above.{above_told}
use Rattle.region.proofs.live.inside_live.Goals as goal

pub face_margin-requires : goal.face_margin-requires
face_margin-requires c =
    record { coordinates = c.requires.coordinates; known = c.requires.live_faces.each c.loop-f.f-index c.loop-f-test.true }

pub above-requires : goal.above-requires
above-requires c = (c.args.table.now.known.marked _ (c.requires.live_faces.each c.loop-f.f-index c.loop-f-test.true)).mark

pub returns-then-not-above : goal.returns-then-not-above
returns-then-not-above c =
    let told = above_told c.args.table.now _ (lone c.args.x) c.face_margin.type_inv c.face_margin.ensures c.above.ensures in
    live_outside c.loop-f.f-index c.loop-f-test.true (sym told ∙ c.if-not-above.true)

pub loop-f-preserved : goal.loop-f-preserved
loop-f-preserved c =
    let told = above_told c.args.table.now _ (lone c.args.x) c.face_margin.type_inv c.face_margin.ensures c.above.ensures in
    below_more _ c.loop-f.f-index c.loop-f.invariant (sym told ∙ c.if-not-above.false)

pub returns : goal.returns
returns c = live_inside (λ t l. c.loop-f.invariant t (omega arith))
