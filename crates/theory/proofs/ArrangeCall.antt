-- The contract of the arrange call leaves one outcome: the tree's order is unique, the later places are kept, and a refusal keeps all.
use Rattle.std.specs.Prelude.{◌≡◌, ℕ, zero, suc, drop}
use Rattle.std.proofs.Math.Path.{refl}
use Rattle.std.proofs.Common.{sym, ap, ◌∙◌, arith}
use Rattle.std.proofs.Math.Bool.{true}
use Rattle.terms.specs.declared.Arranging.{Arranging}
use Rattle.terms.specs.Lent.{Stock, Order}
use Rattle.terms.specs.Points.{slots_of}
use Rattle.terms.specs.Tree.{is_shelf}
use Rattle.terms.specs.ArrangeCall.{ArrangedAs}
use Rattle.theory.proofs.UniqueOrder.{one_shelf}
use Rattle.theory.specs.ArrangeCall.{same_parts}

-- Done, what the call leaves hangs on the first contents' later places only.
pub arranged_same : {s : Stock} {o q x y : Order} {a b : Arranging} → ArrangedAs s o a x → ArrangedAs s q b y → a.code ≡ 0 → b.code ≡ 0
    → drop (slots_of s) o.slots ≡ drop (slots_of s) q.slots → x.slots ≡ y.slots
arranged_same {s} {o} {q} {x} {y} v w z u e =
    same_parts (slots_of s) x.slots y.slots (one_shelf s x y (v.arranged z) (w.arranged u)) (v.later z ∙ e ∙ sym (w.later u))

-- "If it was, no place differs": an order that is the shelf is left as it was.
pub arranged_kept : {s : Stock} {o x : Order} {a : Arranging} → ArrangedAs s o a x → a.code ≡ 0 → is_shelf s o ≡ true → x.slots ≡ o.slots
arranged_kept {s} {o} {x} v z t = same_parts (slots_of s) x.slots o.slots (one_shelf s x o (v.arranged z) t) (v.later z)

-- "A public call's contract determines its answer and every lent place afterwards."
pub arranged_once : {s : Stock} {o : Order} {a b : Arranging} {x y : Order} → ArrangedAs s o a x → ArrangedAs s o b y → (a ≡ b) × (x.slots ≡ y.slots)
arranged_once {s} {o} {a} {b} {x} {y} v w =
    let e : a ≡ b = v.answered ∙ sym w.answered in
    (e, go a.code refl (ap (λ (r : Arranging). r.code) (sym e)))
  where
    go : (c : ℕ) → a.code ≡ c → b.code ≡ a.code → x.slots ≡ y.slots
    go zero z m = arranged_same v w z (m ∙ z) refl
    go (suc c) z m = v.refused (λ u. omega arith) ∙ sym (w.refused (λ u. omega arith))
