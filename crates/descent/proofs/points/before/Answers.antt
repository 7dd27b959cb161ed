-- `before` meets its contract: the coordinates that are compared are those of the two numbers, and pairs are compared as the words say.
use Rattle.std.proofs.Common.{◌≡◌, refl, sym, ◌∙◌, Bool, true, false, cond, ltb, ℕ, ℤ, Some, nat_eq}
use Rattle.std.specs.Ordering.{int_cmp, nat_cmp, partial_ordering_then, partial_lt, is_some_and, is_lt}
use Rattle.std.specs.declared.cmp.Ordering.TheVariants.{Less, Equal, Greater}
use Rattle.std.specs.Int.Signed.{lt_z}
use borrow.Author.Rules.{sfits_of}
use mir.Syntax.{w32}
use mir.Facts.{to_z-of_z}
use Rattle.terms.specs.Points.{coord}
use Rattle.theory.specs.BeforeIsAnOrder.{before_less, before_greater, before_equal}
use Rattle.descent.proofs.points.before.Goals as goal

-- Of two pairs the first is less where its number is, or where the numbers are the same and its other one is.
pairs : (x y : ℤ) (p q : ℕ) (t : Bool) → (lt_z x y ≡ true → t ≡ true) → (lt_z y x ≡ true → t ≡ false)
    → (lt_z x y ≡ false → lt_z y x ≡ false → t ≡ ltb p q)
    → partial_lt {X = ℤ × ℕ} (λ a b. partial_ordering_then (Some (int_cmp a.0 b.0)) (Some (nat_cmp a.1 b.1))) (x, p) (y, q) ≡ t
pairs x y p q t less greater same = go (lt_z x y) (lt_z y x) (ltb p q) (nat_eq p q) refl refl refl
  where
    go : (a b c d : Bool) → lt_z x y ≡ a → lt_z y x ≡ b → ltb p q ≡ c
        → is_some_and is_lt (partial_ordering_then (Some (cond a Less (cond b Greater Equal))) (Some (cond c Less (cond d Equal Greater)))) ≡ t
    go true b c d e f g = sym (less e)
    go false true c d e f g = sym (greater f)
    go false false true d e f g = sym (same e f ∙ g)
    go false false false true e f g = sym (same e f ∙ g)
    go false false false false e f g = sym (same e f ∙ g)

pub returns : goal.returns
returns c =
    let x = c.coordinate-x in
    let y = c.coordinate-y in
    let a = c.args in
    let at = coord a.k a.points.now in
    let told =
    rw
    (to_z-of_z {w = w32} {z = x.result} (sfits_of {w = w32} x.type_inv), to_z-of_z {w = w32} {z = y.result} (sfits_of {w = w32} y.type_inv), x.ensures, y.ensures)
    at c.lt.ensures in
    told ∙ pairs (at a.p a.d) (at a.q a.d) a.p a.q _ (before_less at a.d a.p a.q) (before_greater at a.d a.p a.q) (before_equal at a.d a.p a.q)
