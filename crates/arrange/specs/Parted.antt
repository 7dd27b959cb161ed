-- A pass by a pivot: each number in turn is swapped to where those that are not below the pivot start, and that start moves on past it if it is.
use Rattle.std.specs.Prelude.{◌≡◌, refl, Bool, true, false, List, ℕ, ◌+◌, ◌≤◌, ◌<◌, length, get_or, ltb}
use Rattle.std.proofs.Common.{arith, ltb-true, ltb-false}
use mir.Val.{bool_byte}
use Rattle.arrange.specs.Rearranged.{Rearranged, rearranged_none, rearranged_swap, swapped, AfterSwap, after_swap, at_second, at_first, elsewhere}

-- The places from a to e rearranged: of those up to t, the ones before r hold numbers below p, and the others do not.
pub record Parted (xs ys : List ℕ) (a e p t r : ℕ) : Type 0 where
  pub moved : Rearranged xs ys a e
  pub low : a ≤ r
  pub high : r ≤ t
  pub below : (i : ℕ) → a ≤ i → i < r → get_or ys i 0 < p
  pub above : (i : ℕ) → r ≤ i → i < t → p ≤ get_or ys i 0

pub parted_none : (xs : List ℕ) (a e p : ℕ) → Parted xs xs a e p a a
parted_none xs a e p = record {
  moved = rearranged_none xs a e;
  low = omega arith;
  high = omega arith;
  below = λ i l h. absurd (omega arith);
  above = λ i l h. absurd (omega arith);
}

-- The next place's number is swapped with that of the place r.
module _ {xs ys : List ℕ} {a e p t r : ℕ} (w : Parted xs ys a e p t r) (te : t < e) (el : e ≤ length ys) where
  moves : Rearranged xs (swapped ys t r) a e
  moves = rearranged_swap w.moved t r (omega (arith, w.low, w.high)) te w.low (omega (arith, w.high)) el

  after : (c : ℕ) → AfterSwap ys t r c
  after c = after_swap ys t r c (omega arith) (omega (arith, w.high))

  -- Where r stands next: one further if the number is below the pivot, and as before if it is not.
  parted_next : (n : ℕ) → r ≤ n → n ≤ r + 1 → (r < n → get_or ys t 0 < p) → (n ≤ r → p ≤ get_or ys t 0) → Parted xs (swapped ys t r) a e p (t + 1) n
  parted_next n from to less more =
      let lo = w.low in
      let hi = w.high in
      record { moved = moves; low = omega arith; high = omega arith; below = λ c l h. under c l h (after c); above = λ c l h. over c l h (after c) }
    where
      under : (c : ℕ) → a ≤ c → c < n → AfterSwap ys t r c → get_or (swapped ys t r) c 0 < p
      under c l h (at_second q v) = omega (arith, less (omega arith))
      under c l h (at_first q s v) = absurd (omega (arith, w.high))
      under c l h (elsewhere q s v) = omega (arith, w.below c l (omega arith))

      over : (c : ℕ) → n ≤ c → c < t + 1 → AfterSwap ys t r c → p ≤ get_or (swapped ys t r) c 0
      over c l h (at_second q v) = omega (arith, more (omega arith))
      over c l h (at_first q s v) = omega (arith, w.above r (omega arith) (omega arith))
      over c l h (elsewhere q s v) = omega (arith, w.above c (omega arith) (omega arith))

  -- A turn of the pass: r moves on by the number that the test is.
  pub parted_turn : Parted xs (swapped ys t r) a e p (t + 1) (r + bool_byte (ltb (get_or ys t 0) p))
  parted_turn = go (ltb (get_or ys t 0) p) refl
    where
      go : (s : Bool) → ltb (get_or ys t 0) p ≡ s → Parted xs (swapped ys t r) a e p (t + 1) (r + bool_byte s)
      go true h = parted_next (r + 1) (omega arith) (omega arith) (λ l. ltb-true (get_or ys t 0) p h) (λ l. absurd (omega arith))
      go false h = parted_next (r + 0) (omega arith) (omega arith) (λ l. absurd (omega arith)) (λ l. ltb-false (get_or ys t 0) p h)

-- A test counts at most one.
pub flag_le : (s : Bool) → bool_byte s ≤ 1
flag_le true = omega arith
flag_le false = omega arith
