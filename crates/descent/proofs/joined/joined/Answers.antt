use native.Mathlib.Omega.{arith}
use borrow.Author.Rules.{rules}
use mir.Syntax.{w32}
use mir.Val.{SFits}
use Rattle.terms.specs.Points.{lone}
use Rattle.descent.specs.Joined.{row_next}
use Rattle.descent.proofs.Chosen.{lesser_stored, greater_stored}
use Rattle.descent.proofs.joined.joined.Goals as goal

pub loop-d-preserved : goal.loop-d-preserved
loop-d-preserved c =
    let l = c.loop-d in
    let b = c.args.b in
    let x : SFits w32 (lone b.low l.d) = search rules in
    let y : SFits w32 (lone b.high l.d) = search rules in
    let low : SFits w32 (lone l.low l.d) = search rules in
    let high : SFits w32 (lone l.high l.d) = search rules in (
      row_next (omega arith) l.invariant.0 (lesser_stored low x c.min.type_inv c.min.ensures.value),
      row_next (omega arith) l.invariant.1 (greater_stored high y c.max.type_inv c.max.ensures.value),
    )
