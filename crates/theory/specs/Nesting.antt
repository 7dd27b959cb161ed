-- A box within a settled box is settled in the same way.
-- The corner of the inner box is no further out than the outer's, so its sum of products is not either; all is said face by face.
use Rattle.std.specs.Prelude.{◌≡◌, true, false, ◌⊎◌, ℕ, ◌<◌, ℤ, pos, negsuc, ◌*ℤ◌, ◌≤ℤ◌}
use Rattle.std.proofs.Math.Logic.{inl, inr, ⊎_elim}
use Rattle.whole.proofs.Parts.{ints}
use Rattle.whole.proofs.Products.{mul_mono, mul_anti}
use Rattle.whole.proofs.IndexedSum.{sum_mono}
use Rattle.terms.specs.Tests.{any_to}
use Rattle.terms.specs.Box.{Box}
use Rattle.terms.specs.Region.{Region, reach, above, by_sign, against, along, wholly_above, wholly_below, is_settled, is_open}
use Rattle.theory.specs.Flags.{contra, same_test, not_true, not_false, true_not, false_not, false_or, or_false, or_true, true_or, or_yes}
use Rattle.theory.specs.AllAndAny.{OneBelow, all_each, each_all, any_none, none_any, any_true, all_false, one_all_false, one_any_true}
use Rattle.theory.specs.AboveIsUpward.{above_up}
use Rattle.theory.specs.Boxes.{Nested, Alike, alike_nested, alike_sym}

-- A product grows when the coordinate chosen by the component's sign moves along it.
by_sign_mono : (n : ℤ) {a b c d : ℤ} → a ≤ℤ c → d ≤ℤ b → (n *ℤ by_sign n a b) ≤ℤ (n *ℤ by_sign n c d)
by_sign_mono (pos n) p q = mul_mono (pos n) (omega ints) p
by_sign_mono (negsuc n) p q = mul_anti (negsuc n) (omega ints) q

-- Face by face.
module _ (g : Region) (i : ℕ) {inner outer : Box} (w : Nested g.k inner outer) where
  pub against_nested : reach g i (against g i outer) ≤ℤ reach g i (against g i inner)
  against_nested = sum_mono g.k _ _ (λ d l. by_sign_mono (g.component i d) (w.least d l) (w.most d l))

  pub along_nested : reach g i (along g i inner) ≤ℤ reach g i (along g i outer)
  along_nested = sum_mono g.k _ _ (λ d l. by_sign_mono (g.component i d) (w.most d l) (w.least d l))

  pub above_nested : wholly_above g outer i ≡ true → wholly_above g inner i ≡ true
  above_nested = above_up g i against_nested

  pub below_nested : wholly_below g outer i ≡ true → wholly_below g inner i ≡ true
  below_nested e = true_not (contra (above_up g i along_nested) (not_true (above g i (along g i outer)) e))

-- An open box, face by face: below none of them, and not above one of them.
pub record Open (g : Region) (b : Box) : Type 0 where
  pub not_below : (i : ℕ) → i < g.h → wholly_below g b i ≡ false
  pub not_above : OneBelow g.h (wholly_above g b) false

pub to_open : {g : Region} {b : Box} → is_open g b ≡ true → Open g b
unfolding is_open is_settled
to_open {g} {b} e =
    let p = or_false (any_to g.h (wholly_below g b)) (not_true (is_settled g b) e) in
    record { not_below = any_none g.h (wholly_below g b) p.0; not_above = all_false g.h (wholly_above g b) p.1 }

pub of_open : {g : Region} {b : Box} → Open g b → is_open g b ≡ true
unfolding is_open is_settled
of_open {g} {b} o =
    true_not (false_or (none_any g.h (wholly_below g b) o.not_below) (one_all_false g.h (wholly_above g b) o.not_above))

-- A settled box, face by face: "wholly below at least one face, or wholly above all of them".
module _ (g : Region) (b : Box) where
  pub below_one_settled : OneBelow g.h (wholly_below g b) true → is_open g b ≡ false
  unfolding is_open is_settled
  below_one_settled e = false_not (true_or _ (one_any_true g.h (wholly_below g b) e))

  pub above_all_settled : ((i : ℕ) → i < g.h → wholly_above g b i ≡ true) → is_open g b ≡ false
  unfolding is_open is_settled
  above_all_settled e = false_not (or_yes (any_to g.h (wholly_below g b)) (each_all g.h (wholly_above g b) e))

  pub settled_either : is_open g b ≡ false → OneBelow g.h (wholly_below g b) true ⊎ ((i : ℕ) → i < g.h → wholly_above g b i ≡ true)
  unfolding is_open is_settled
  settled_either e =
      ⊎_elim
      (λ below. inl (any_true g.h (wholly_below g b) below))
      (λ above. inr (all_each g.h (wholly_above g b) above))
      (or_true (any_to g.h (wholly_below g b)) (not_false (is_settled g b) e))

pub open_nested : (g : Region) {inner outer : Box} → Nested g.k inner outer → Open g inner → Open g outer
open_nested g w o = record {
  not_below = λ i l. contra (below_nested g i w) (o.not_below i l);
  not_above = (o.not_above.0, o.not_above.1, contra (above_nested g o.not_above.0 w) o.not_above.2);
}

-- "Algorithm 4's skipped corner tests may be used": a box within a settled box is settled.
pub settled_nested : (g : Region) {inner outer : Box} → Nested g.k inner outer → is_open g outer ≡ false → is_open g inner ≡ false
settled_nested g {inner} {outer} w e = contra {s = is_open g inner} (λ o. of_open (open_nested g w (to_open o))) e

-- Boxes with the same corners below k are settled alike.
module _ (g : Region) {b c : Box} (s : Alike g.k b c) where
  pub above_alike : (i : ℕ) → wholly_above g b i ≡ wholly_above g c i
  above_alike i = same_test (above_nested g i (alike_nested (alike_sym s))) (above_nested g i (alike_nested s))

  pub below_alike : (i : ℕ) → wholly_below g b i ≡ wholly_below g c i
  below_alike i = same_test (below_nested g i (alike_nested (alike_sym s))) (below_nested g i (alike_nested s))

  pub open_alike : is_open g b ≡ is_open g c
  open_alike =
      same_test
      (λ o. of_open (open_nested g (alike_nested s) (to_open o)))
      (λ o. of_open (open_nested g (alike_nested (alike_sym s)) (to_open o)))
