-- The least and the greatest value over a run. Both are carried through the run number by number, each time one of two values is chosen:
-- what holds of every such choice is proved once, for both.
use Rattle.std.specs.Prelude.{◌≡◌, refl, ◌⊎◌, List, [], ◌∷◌, ℕ, zero, suc, ◌<◌, length, get_or, ℤ, ◌≤ℤ◌}
use Rattle.std.proofs.Common.{inl, inr, not-suc-le-zero, le_of_suc-le-suc, arith}
use Rattle.whole.specs.Order.{lesser}
use Rattle.whole.proofs.Order.{le_refl, le_trans, lesser_one_of, lesser_le_left, lesser_le_right}
use Rattle.whole.specs.Order.{greater}
use Rattle.whole.proofs.Order.{greater_one_of, le_greater_left, le_greater_right}
use Rattle.terms.specs.Box.{least_from, greatest_from}
use Rattle.theory.specs.Tested.{Between}

-- A value carried through a run from a first one: at each number one of the value so far and the number's own is chosen.
record Carried (choose : ℤ → ℤ → ℤ) (from : (ℕ → ℤ) → ℤ → List ℕ → ℤ) : Type 0 where
  none : (value : ℕ → ℤ) (first : ℤ) → from value first [] ≡ first
  more : (value : ℕ → ℤ) (first : ℤ) (p : ℕ) (run : List ℕ) → from value first (p ∷ run) ≡ from value (choose first (value p)) run
  one_of : (a b : ℤ) → (choose a b ≡ a) ⊎ (choose a b ≡ b)

least_carried : Carried lesser least_from
unfolding least_from
least_carried = record { none = λ value first. refl; more = λ value first p run. refl; one_of = lesser_one_of }

greatest_carried : Carried greater greatest_from
unfolding greatest_from
greatest_carried = record { none = λ value first. refl; more = λ value first p run. refl; one_of = greater_one_of }

module _ {choose : ℤ → ℤ → ℤ} {from : (ℕ → ℤ) → ℤ → List ℕ → ℤ} (c : Carried choose from) (value : ℕ → ℤ) where
  -- What holds of the first value and of every number's holds of the one carried.
  carried_keeps : (P : ℤ → Type 0) (first : ℤ) (run : List ℕ) → P first → ((i : ℕ) → i < length run → P (value (get_or run i 0))) → P (from value first run)
  carried_keeps P first [] p each = rw (c.none value first) p
  carried_keeps P first (q ∷ run) p each =
      rw (c.more value first q run)
      (carried_keeps P (choose first (value q)) run (chosen (c.one_of first (value q))) (λ i l. each (suc i) (omega arith)))
    where
      chosen : (choose first (value q) ≡ first) ⊎ (choose first (value q) ≡ value q) → P (choose first (value q))
      chosen (inl e) = rw e p
      chosen (inr e) = rw e (each 0 (omega arith))

  -- What a choice takes over from either side is taken over from the first value, and from the value of any number.
  module _ (P : ℤ → Type 0) (left : (a b : ℤ) → P a → P (choose a b)) (right : (a b : ℤ) → P b → P (choose a b)) where
    carried_from_first : (first : ℤ) (run : List ℕ) → P first → P (from value first run)
    carried_from_first first [] p = rw (c.none value first) p
    carried_from_first first (q ∷ run) p = rw (c.more value first q run) (carried_from_first (choose first (value q)) run (left first (value q) p))

    carried_from_each : (first : ℤ) (run : List ℕ) (i : ℕ) → i < length run → P (value (get_or run i 0)) → P (from value first run)
    carried_from_each first [] i l p = absurd (not-suc-le-zero l)
    carried_from_each first (q ∷ run) zero l p = rw (c.more value first q run) (carried_from_first (choose first (value q)) run (right first (value q) p))
    carried_from_each first (q ∷ run) (suc i) l p = rw (c.more value first q run) (carried_from_each (choose first (value q)) run i (le_of_suc-le-suc l) p)

-- What is at least a value of two is at least their lesser; what is at most one is at most their greater.
lesser_from_left : (c a b : ℤ) → a ≤ℤ c → lesser a b ≤ℤ c
lesser_from_left c a b h = le_trans (lesser_le_left a b) h

lesser_from_right : (c a b : ℤ) → b ≤ℤ c → lesser a b ≤ℤ c
lesser_from_right c a b h = le_trans (lesser_le_right a b) h

greater_from_left : (c a b : ℤ) → c ≤ℤ a → c ≤ℤ greater a b
greater_from_left c a b h = le_trans h (le_greater_left a b)

greater_from_right : (c a b : ℤ) → c ≤ℤ b → c ≤ℤ greater a b
greater_from_right c a b h = le_trans h (le_greater_right a b)

module _ (value : ℕ → ℤ) (first : ℤ) (run : List ℕ) where
  -- What holds of the first value and of each other one holds of the least.
  pub least_keeps : (P : ℤ → Type 0) → P first → ((i : ℕ) → i < length run → P (value (get_or run i 0))) → P (least_from value first run)
  least_keeps P = carried_keeps least_carried value P first run

  -- The least is at most the first value and each other one.
  pub least_le_first : least_from value first run ≤ℤ first
  least_le_first = carried_from_first least_carried value (λ z. z ≤ℤ first) (lesser_from_left first) (lesser_from_right first) first run (le_refl first)

  pub least_le_each : (i : ℕ) → i < length run → least_from value first run ≤ℤ value (get_or run i 0)
  least_le_each i l =
      let c : ℤ = value (get_or run i 0) in
      carried_from_each least_carried value (λ z. z ≤ℤ c) (lesser_from_left c) (lesser_from_right c) first run i l (le_refl c)

  -- The greatest is at least the first value and each other one.
  pub first_le_greatest : first ≤ℤ greatest_from value first run
  first_le_greatest =
      carried_from_first greatest_carried value (λ z. first ≤ℤ z) (greater_from_left first) (greater_from_right first) first run (le_refl first)

  pub each_le_greatest : (i : ℕ) → i < length run → value (get_or run i 0) ≤ℤ greatest_from value first run
  each_le_greatest i l =
      let c : ℤ = value (get_or run i 0) in
      carried_from_each greatest_carried value (λ z. c ≤ℤ z) (greater_from_left c) (greater_from_right c) first run i l (le_refl c)

  -- Values in a range have their least and their greatest in it.
  module _ {a b : ℤ} (f : Between a first b) (each : (i : ℕ) → i < length run → Between a (value (get_or run i 0)) b) where
    pub least_between : Between a (least_from value first run) b
    least_between = least_keeps (λ z. Between a z b) f each

    pub greatest_between : Between a (greatest_from value first run) b
    greatest_between = carried_keeps greatest_carried value (λ z. Between a z b) first run f each
