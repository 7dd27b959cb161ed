-- A pass for the least number of a part: the least so far is carried along, and each place is left the greater of it and its own number.
-- Stored at the part's first place, what is carried makes each turn a swap or nothing.
use Rattle.std.specs.Prelude.{◌≡◌, refl, ◌≢◌, ◌⊎◌, List, ℕ, ◌+◌, ◌≤◌, ◌<◌, length, get_or, set}
use Rattle.std.proofs.Common.{inl, inr, arith, length-set, get_or-set_same, get_or-set_other, set-set}
use Rattle.std.proofs.lemmas.List.{set-get_or, set_comm}
use Rattle.arrange.specs.Rearranged.{Rearranged, rearranged_none, rearranged_swap, swapped, AfterSwap, after_swap, at_second, at_first, elsewhere, below_or_from}

-- r is the first of two numbers where x is less than y, and otherwise the second.
pub record IfLess (x y first second r : ℕ) : Type 0 where
  pub less : x < y → r ≡ first
  pub more : y ≤ x → r ≡ second

-- The places from a to e rearranged: of those up to t, none holds a smaller number than a.
pub record LeastFirst (xs ys : List ℕ) (a e t : ℕ) : Type 0 where
  pub moved : Rearranged xs ys a e
  pub least : (i : ℕ) → a ≤ i → i < t → get_or ys a 0 ≤ get_or ys i 0

-- Of one place it is the least; it is carried and not yet stored at a.
pub least_one : (xs : List ℕ) (a e : ℕ) → LeastFirst xs (set xs a (get_or xs a 0)) a e (a + 1)
least_one xs a e = rw set-get_or (record { moved = rearranged_none xs a e; least = λ i l h. go i (omega arith) })
  where
    go : (i : ℕ) → i ≡ a → get_or xs a 0 ≤ get_or xs i 0
    go i q = rw q (omega arith)

module _ {xs ys : List ℕ} {a e t : ℕ} (w : LeastFirst xs ys a e t) where
  least_stays : get_or ys a 0 ≤ get_or ys t 0 → LeastFirst xs ys a e (t + 1)
  least_stays h = record { moved = w.moved; least = λ i l u. go i l (below_or_from i t) u }
    where
      go : (i : ℕ) → a ≤ i → (i < t) ⊎ (t ≤ i) → i < t + 1 → get_or ys a 0 ≤ get_or ys i 0
      go i l (inl s) u = w.least i l s
      go i l (inr s) u = let q : i ≡ t = omega arith in rw q h

  least_swaps : a < t → t < e → e ≤ length ys → get_or ys t 0 ≤ get_or ys a 0 → LeastFirst xs (swapped ys t a) a e (t + 1)
  least_swaps at te el h = record {
    moved = rearranged_swap w.moved t a (omega arith) te (omega arith) (omega arith) el;
    least = λ i l u. go i l u (after a) (after i);
  }
    where
      after : (c : ℕ) → AfterSwap ys t a c
      after c = after_swap ys t a c (omega arith) (omega arith)

      go : (i : ℕ) → a ≤ i → i < t + 1 → AfterSwap ys t a a → AfterSwap ys t a i → get_or (swapped ys t a) a 0 ≤ get_or (swapped ys t a) i 0
      go i l u (at_second p v) (at_second q z) = omega arith
      go i l u (at_second p v) (at_first q r z) = omega arith
      go i l u (at_second p v) (elsewhere q r z) = omega (arith, w.least i l (omega arith))
      go i l u (at_first p q v) z = absurd (p refl)
      go i l u (elsewhere p q v) z = absurd (p refl)

-- A turn of the pass: the least number so far, v, is carried and not yet stored at a; the place t gets x and the next to carry is z.
pub least_turn : {xs : List ℕ} (ys : List ℕ) {a e t v x z : ℕ} → LeastFirst xs (set ys a v) a e t → a < t → t < e → e ≤ length ys
    → IfLess v (get_or ys t 0) (get_or ys t 0) v x → IfLess v (get_or ys t 0) v (get_or ys t 0) z → LeastFirst xs (set (set ys t x) a z) a e (t + 1)
least_turn {xs} ys {a} {e} {t} {v} {x} {z} w at te el px pz = go (below_or_from v (get_or ys t 0))
  where
    at_a : get_or (set ys a v) a 0 ≡ v
    at_a = get_or-set_same ys a v 0 (omega arith)

    at_t : get_or (set ys a v) t 0 ≡ get_or ys t 0
    at_t = get_or-set_other ys a t v 0 (λ q. omega arith)

    go : (v < get_or ys t 0) ⊎ (get_or ys t 0 ≤ v) → LeastFirst xs (set (set ys t x) a z) a e (t + 1)
    go (inl h) = rw (px.less h, pz.less h, set-get_or ys t 0) (least_stays w (omega (arith, at_a, at_t)))
    go (inr h) =
        let apart : a ≢ t = λ q. omega arith in
        let e' : swapped (set ys a v) t a ≡ set (set ys t v) a (get_or ys t 0) = rw (at_a, at_t, set_comm ys a t v v apart, set-set) in
        rw (px.more h, pz.more h, ← e') (least_swaps w at te (rw length-set el) (omega (arith, at_a, at_t)))
