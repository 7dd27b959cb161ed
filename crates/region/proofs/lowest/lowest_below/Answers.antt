use mathlib.Core.Path.{sym, ◌∙◌}
use native.Mathlib.Omega.{arith}
use borrow.Author.Count.{below_more}
use Rattle.terms.specs.Points.{lone}
use Rattle.theory.specs.Flags.{true_not, false_not}
use Rattle.region.proofs.Above.{above_told}
use Rattle.region.proofs.lowest.lowest_below.Goals as goal

pub above-requires : goal.above-requires
above-requires c = (c.args.table.now.known.marked _ c.loop-i-test.true).mark

pub returns-then-not-above : goal.returns-then-not-above
returns-then-not-above c =
    let told = above_told c.args.table.now c.loop-i.i (lone c.args.x) c.face_margin.type_inv c.face_margin.ensures c.above.ensures in
    record { known = c.loop-i-test.true; passes = true_not (sym told ∙ c.if-not-above.true); none_lower = c.loop-i.invariant.1 }

pub loop-i-preserved : goal.loop-i-preserved
loop-i-preserved c =
    let told = above_told c.args.table.now c.loop-i.i (lone c.args.x) c.face_margin.type_inv c.face_margin.ensures c.above.ensures in
    (omega arith, below_more _ c.loop-i.i c.loop-i.invariant.1 (false_not (sym told ∙ c.if-not-above.false)))

pub returns : goal.returns
returns c = λ s l. c.loop-i.invariant.1 s (omega arith)
