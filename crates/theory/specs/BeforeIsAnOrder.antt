-- The comparison on a dimension is a strict order in which any two different numbers stand.
-- It is turned once into what it says of coordinates and numbers, and arithmetic decides the rest.
use Rattle.std.specs.Prelude.{◌≡◌, Bool, ◌&&◌, ◌||◌, ◌⊎◌, ◌≢◌, ℕ, ◌<◌, ℤ, ◌≤ℤ◌, ◌<ℤ◌}
use Rattle.std.proofs.Math.Path.{refl}
use Rattle.std.proofs.Math.Bool.{true, false}
use Rattle.std.proofs.Math.Logic.{inl, inr}
use Rattle.std.proofs.Common.{⊎_elim, arith}
use Rattle.std.specs.Int.Signed.{lt_z, le_z}
use Rattle.std.proofs.Math.Dec.{ltb}
use borrow.Author.Tests.{ltb-true, ltb-false, lt-ltb}
use Rattle.whole.proofs.Parts.{ints, flags}
use Rattle.whole.proofs.Order.{le_of_eq, lt_lt_z, le_le_z}
use Rattle.terms.specs.Before.{before}
use Rattle.theory.specs.Flags.{clash, exclude, and_true, or_false, and_false, or_yes, true_or, true_and}

module _ (at : ℕ → ℕ → ℤ) (s : ℕ) where
  -- "Numbers are compared on dimension s by coordinate s, then by point number": the coordinate is less, or it is equal and the number is lower.
  abbrev pub Earlier : ℕ → ℕ → Type 0
  Earlier p q = (at p s <ℤ at q s) ⊎ ((at p s ≡ at q s) × (p < q))

  pub before_earlier : (p q : ℕ) → before at s p q ≡ true → Earlier p q
  unfolding before
  before_earlier p q e = go (lt_z (at p s) (at q s)) refl e
    where
      go : (t : Bool) → lt_z (at p s) (at q s) ≡ t → t || (le_z (at p s) (at q s) && ltb p q) ≡ true → Earlier p q
      go true a h = inl (omega flags)
      go false a h =
          let b = and_true (le_z (at p s) (at q s)) h in
          inr (omega flags, ltb-true p q b.1)

  pub earlier_before : (p q : ℕ) → Earlier p q → before at s p q ≡ true
  unfolding before
  earlier_before p q (inl h) = true_or (le_z (at p s) (at q s) && ltb p q) (lt_lt_z h)
  earlier_before p q (inr h) = or_yes (lt_z (at p s) (at q s)) (true_and (le_le_z (le_of_eq h.0)) (lt-ltb p q h.1))

  pub before_le : (p q : ℕ) → before at s p q ≡ true → at p s ≤ℤ at q s
  before_le p q e = ⊎_elim (λ h. omega ints) (λ h. omega ints) (before_earlier p q e)

  pub before_trans : (p q r : ℕ) → before at s p q ≡ true → before at s q r ≡ true → before at s p r ≡ true
  before_trans p q r a b = earlier_before p r (go (before_earlier p q a) (before_earlier q r b))
    where
      go : Earlier p q → Earlier q r → Earlier p r
      go (inl x) (inl y) = inl (omega ints)
      go (inl x) (inr y) = inl (omega ints)
      go (inr x) (inl y) = inl (omega ints)
      go (inr x) (inr y) = inr (omega ints)

  pub before_asym : (p q : ℕ) → before at s p q ≡ true → before at s q p ≡ false
  before_asym p q a = exclude (λ b. absurd (go (before_earlier p q a) (before_earlier q p b))) a
    where
      go : Earlier p q → Earlier q p → ⊥
      go (inl x) (inl y) = omega ints
      go (inl x) (inr y) = omega ints
      go (inr x) (inl y) = omega ints
      go (inr x) (inr y) = omega ints

  pub before_self : (p : ℕ) → before at s p p ≡ false
  before_self p = go (before at s p p) refl
    where
      go : (t : Bool) → before at s p p ≡ t → t ≡ false
      go true b = clash b (before_asym p p b)
      go false b = refl

  -- Two numbers of which neither comes before the other are one.
  pub before_total : (p q : ℕ) → before at s p q ≡ false → before at s q p ≡ false → p ≡ q
  unfolding before
  before_total p q a b =
      let c = or_false (lt_z (at p s) (at q s)) a in
      let d = or_false (lt_z (at q s) (at p s)) b in
      go (and_false (le_z (at p s) (at q s)) c.1) (and_false (le_z (at q s) (at p s)) d.1) c.0 d.0
    where
      go : (le_z (at p s) (at q s) ≡ false) ⊎ (ltb p q ≡ false) → (le_z (at q s) (at p s) ≡ false) ⊎ (ltb q p ≡ false)
          → lt_z (at p s) (at q s) ≡ false → lt_z (at q s) (at p s) ≡ false → p ≡ q
      go (inl x) y c d = absurd (omega flags)
      go (inr x) (inl y) c d = absurd (omega flags)
      go (inr x) (inr y) c d = omega (arith, ltb-false)

  -- One of two different numbers comes before the other.
  pub before_either : (p q : ℕ) → p ≢ q → (before at s p q ≡ true) ⊎ (before at s q p ≡ true)
  before_either p q n = go (before at s p q) (before at s q p) refl refl
    where
      go : (t u : Bool) → before at s p q ≡ t → before at s q p ≡ u → (before at s p q ≡ true) ⊎ (before at s q p ≡ true)
      go true u a b = inl a
      go false true a b = inr b
      go false false a b = absurd (n (before_total p q a b))

  -- The comparison made by two tests of the coordinates, and of the numbers where neither is less.
  pub before_less : (p q : ℕ) → lt_z (at p s) (at q s) ≡ true → before at s p q ≡ true
  before_less p q e = earlier_before p q (inl (omega flags))

  pub before_greater : (p q : ℕ) → lt_z (at q s) (at p s) ≡ true → before at s p q ≡ false
  before_greater p q e = before_asym q p (before_less q p e)

  pub before_equal : (p q : ℕ) → lt_z (at p s) (at q s) ≡ false → lt_z (at q s) (at p s) ≡ false → before at s p q ≡ ltb p q
  unfolding before
  before_equal p q e n =
      let l : at p s ≤ℤ at q s = omega flags in
      rw (e, le_le_z l) refl
