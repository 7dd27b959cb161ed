use mathlib.Core.Path.{◌≡◌, refl}
use Prim.Native.Nat.{◌+◌, ◌%◌}
use native.Mathlib.Nat.{mod-lt}
use native.Mathlib.Omega.{arith}
use borrow.Author.Rules.{rules}
use mir.Syntax.{w32}
use mir.Val.{SFits}
use Rattle.terms.specs.Points.{lone}
use Rattle.descent.specs.NumbersBox.{dealt_more, dealt_again, dealt_all, lane_dimension}
use Rattle.descent.proofs.Chosen.{lesser_stored, greater_stored}
use Rattle.descent.proofs.numbers_box.numbers_box.Goals as goal

pub loop-j-preserved : goal.loop-j-preserved
loop-j-preserved c =
    let l = c.loop-j in
    let k = c.args.k in
    let lanes = c.deal_all.result in
    let x : SFits w32 (lone lanes.least l.j) = search rules in
    let y : SFits w32 (lone lanes.greatest l.j) = search rules in
    let low : SFits w32 (lone l.low (l.j % k)) = search rules in
    let high : SFits w32 (lone l.high (l.j % k)) = search rules in (
      omega arith,
      mod-lt (l.j + 1) {m = k} (omega arith),
      rw (lesser_stored low x c.min.type_inv c.min.ensures.value, greater_stored high y c.max.type_inv c.max.ensures.value)
          (dealt_more l.invariant.2 (l.j % k) l.invariant.1 refl),
    )

pub returns : goal.returns
returns c =
    let l = c.loop-j in
    let e : l.j ≡ 24 = omega arith in
    dealt_all c.requires (dealt_again c.deal_all.ensures (omega arith) (lane_dimension c.requires) (rw e at l.invariant.2))
