use mathlib.Core.Path.{◌≡◌, ◌∙◌}
use Prim.Native.Nat.{◌+◌, ◌-◌}
use lib.ListN.{get_or, take, drop}
use lib.IntN.{pos}
use Rattle.std.proofs.Common.{get_or-take, get_or-drop}
use native.Mathlib.Omega.{arith}
use borrow.Author.Rules.{rules}
use mir.Syntax.{w32}
use mir.Val.{SFits}
use Rattle.terms.specs.Points.{lone}
use Rattle.descent.specs.NumbersBox.{dealt_more}
use Rattle.descent.proofs.Chosen.{lesser_stored, greater_stored}
use Rattle.descent.proofs.numbers_box.deal.Goals as goal

pub loop-j-preserved : goal.loop-j-preserved
loop-j-preserved c =
    let l = c.loop-j in
    let a = c.args in
    let rest = drop a.from a.points.now in
    let x : SFits w32 (get_or (take (a.from + a.count - a.from) rest) l.j (pos 0)) = search rules in
    let least : SFits w32 (lone l.least l.j) = search rules in
    let greatest : SFits w32 (lone l.greatest l.j) = search rules in
    let at : get_or (take (a.from + a.count - a.from) rest) l.j (pos 0) ≡ lone a.points.now (a.from + l.j) =
    get_or-take (a.from + a.count - a.from) rest l.j (pos 0) (omega (arith, c.loop-j-test.true)) ∙ get_or-drop a.from a.points.now l.j (pos 0) in
    let next : a.from + (l.j + 1) ≡ a.from + l.j + 1 = omega arith in (
      omega arith,
      rw (next, lesser_stored least x c.min.type_inv c.min.ensures.value, greater_stored greatest x c.max.type_inv c.max.ensures.value, at)
          (dealt_more l.invariant.1 l.j (omega arith) (omega arith)),
    )
