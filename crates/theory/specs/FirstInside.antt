-- The first item of a list that passes a test, and how many there are up to and including it. Of two lists in a row it is the first's where one of that
-- passes; else all of the first are passed over.
use Rattle.std.specs.Prelude.{◌≡◌, Bool, take, drop}
use Rattle.std.proofs.Math.Path.{refl, ap}
use Rattle.std.proofs.Common.{take-append-drop}
use Rattle.std.proofs.Math.Bool.{true, false}
use mathlib.Core.List.{List, [], ◌∷◌, ◌++◌, map, append-nil}
use Prim.Native.Nat.{ℕ, zero, suc, ◌+◌, ◌≤◌}
use native.Mathlib.Omega.{arith}
use Rattle.std.proofs.Math.ListN.{length}
use Rattle.terms.specs.Tests.{bit, count, keep, pick}
use Rattle.terms.specs.Screen.{up_to_first}
use Rattle.theory.specs.Counting.{count_append}

pub up_le : (ts : List Bool) → up_to_first ts ≤ length ts
unfolding up_to_first
up_le [] = omega arith
up_le (true ∷ ts) = omega arith
up_le (false ∷ ts) = omega (arith, up_le ts)

module _ {A : Type 0} (test : A → Bool) where
  -- None of the first list passes.
  pub up_past : (xs ys : List A) → keep test xs ≡ [] → up_to_first (map test (xs ++ ys)) ≡ length xs + up_to_first (map test ys)
  unfolding up_to_first keep
  up_past [] ys e = omega arith
  up_past (x ∷ xs) ys e = go (test x) (up_past xs ys) e
    where
      go : (t : Bool) → (keep test xs ≡ [] → up_to_first (map test (xs ++ ys)) ≡ length xs + up_to_first (map test ys)) → pick t x (keep test xs) ≡ []
          → up_to_first (t ∷ map test (xs ++ ys)) ≡ suc (length xs) + up_to_first (map test ys)
      go true ih e = absurd (omega (arith, ap length e))
      go false ih e = omega (arith, ih e)

  pub up_none : (xs : List A) → keep test xs ≡ [] → up_to_first (map test xs) ≡ length xs
  unfolding up_to_first
  up_none xs e = let past = rw (append-nil xs) at (up_past xs [] e) in omega (arith, past)

  -- One of the first list passes.
  pub up_within : (xs ys : List A) (p : A) (rest : List A) → keep test xs ≡ p ∷ rest → up_to_first (map test (xs ++ ys)) ≡ up_to_first (map test xs)
  unfolding up_to_first keep
  up_within [] ys p rest e = absurd (omega (arith, ap length e))
  up_within (x ∷ xs) ys p rest e = go (test x) (up_within xs ys p rest) e
    where
      go : (t : Bool) → (keep test xs ≡ p ∷ rest → up_to_first (map test (xs ++ ys)) ≡ up_to_first (map test xs)) → pick t x (keep test xs) ≡ p ∷ rest
          → up_to_first (t ∷ map test (xs ++ ys)) ≡ up_to_first (t ∷ map test xs)
      go true ih e = refl
      go false ih e = ap suc (ih e)

-- No more items of a part pass than of the whole.
pub count_take_le : {A : Type 0} (test : A → Bool) (n : ℕ) (xs : List A) → count test (take n xs) ≤ count test xs
count_take_le test n xs = omega (arith, count_append test (take n xs) (drop n xs), ap (count test) (take-append-drop n xs))

-- Of a part, the items that pass are the answers yes of the same part of the answers.
pub count_take : {A : Type 0} (test : A → Bool) (n : ℕ) (xs : List A) → count test (take n xs) ≡ count (λ t. t) (take n (map test xs))
unfolding count
count_take test zero xs = refl
count_take test (suc n) [] = refl
count_take test (suc n) (x ∷ xs) = ap (λ (m : ℕ). bit (test x) + m) (count_take test n xs)
