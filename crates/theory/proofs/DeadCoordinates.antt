-- Two arrange calls whose points differ in dead coordinates alone answer alike and leave the same.
-- The tests read the live ones, so both are refused alike; done, both leave the shelf of both.
use Rattle.std.specs.Prelude.{◌≡◌, ℤ}
use Rattle.std.proofs.Math.Path.{refl, ap}
use Rattle.std.proofs.Common.{sym, ◌∙◌}
use Rattle.std.proofs.Math.Bool.{Bool}
use mathlib.Core.List.{List}
use Prim.Native.Nat.{ℕ, zero, suc}
use Rattle.terms.specs.Tests.{bit}
use Rattle.terms.specs.Lent.{Stock, Order, stock}
use Rattle.terms.specs.Live.{is_live}
use Rattle.terms.specs.Tree.{is_shelf}
use Rattle.terms.specs.declared.Arranging.{Arranging}
use Rattle.terms.specs.Refusals.{if_done}
use Rattle.terms.specs.ArrangeCall.{arrange_code, arrange_answer, ArrangedAs}
use Rattle.theory.specs.MembersAlike.{MembersAlike}
use Rattle.theory.specs.ArrangeCall.{arrange_passed, arranged_code}
use Rattle.theory.proofs.ArrangeCall.{arranged_once}
use Rattle.theory.specs.DeadCoordinates.{shelf_alike, arrange_code_alike}

module _ (k n : ℕ) (live : List ℕ) {points others : List ℤ} (w : MembersAlike k (is_live n live) points others) (o : Order) where
  abbrev s : Stock
  s = stock k n points live

  abbrev t : Stock
  t = stock k n others live

  arrange_answer_alike : arrange_answer s o ≡ arrange_answer t o
  unfolding arrange_answer
  arrange_answer_alike = rw (arrange_code_alike n live o k w) (go (arrange_code t o) refl)
    where
      said : ℕ → Bool → Arranging
      said c shelf = if_done c (record { code = 0; already = bit shelf }) (record { code = c; already = 0 })

      go : (c : ℕ) → arrange_code t o ≡ c → said c (is_shelf s o) ≡ said c (is_shelf t o)
      go zero z = ap (said zero) (shelf_alike n live w (arrange_passed t o z).tested.some o)
      go (suc c) z = refl

  -- Done, both orders are the shelf.
  pub arranged_alike : {a b : Arranging} {x y : Order} → ArrangedAs s o a x → ArrangedAs t o b y → (a ≡ b) × (x.slots ≡ y.slots)
  arranged_alike {y = y} e f = arranged_once e (record {
    answered = f.answered ∙ sym arrange_answer_alike;
    size = f.size;
    arranged = λ z. shelf_alike n live w (arrange_passed t o (sym (arranged_code f) ∙ z)).tested.some y ∙ f.arranged z;
    later = f.later;
    refused = f.refused;
  })
