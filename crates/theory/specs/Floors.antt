-- The greatest whole number not above a fraction: it is not above it, and the next one is. So greater fractions have greater floors, and fractions of one
-- value have one floor.
use Rattle.std.specs.Prelude.{◌≡◌, ℕ, ◌+◌, ◌*◌, ◌/◌, ◌≤◌, ◌<◌, ℤ, pos, negsuc, ◌+ℤ◌, ◌*ℤ◌, ◌≤ℤ◌, ◌<ℤ◌}
use Rattle.std.proofs.Common.{ap, sym, ◌∙◌, div-mul-le_self, suc-mul}
use Rattle.std.proofs.Math.Nat.{lt-div-mul-add}
use Rattle.whole.proofs.Parts.{ints, sum_parts, mul_parts}
use Rattle.whole.proofs.Order.{le_of_eq, le_antisym, lt_of_le_of_lt}
use Rattle.whole.proofs.Products.{mul_comm, mul_assoc, mul_sum, mul_one, mul_mono, mul_cancel, mul_cancel_lt}
use Rattle.terms.specs.Value.{floor_of}

-- r ≤ z / c < r + 1, each side times c.
pub record IsFloor (r z : ℤ) (c : ℕ) : Type 0 where
  pub not_above : (r *ℤ pos c) ≤ℤ z
  pub next_above : z <ℤ ((r +ℤ pos 1) *ℤ pos c)

next_times : (r c : ℤ) → (r +ℤ pos 1) *ℤ c ≡ r *ℤ c +ℤ c
next_times r c = omega (ints, mul_comm (r +ℤ pos 1) c, mul_sum c r (pos 1), mul_comm r c, mul_one c, sum_parts (r *ℤ c) c, sum_parts (c *ℤ r) (c *ℤ pos 1))

pub is_floor : (z : ℤ) (c : ℕ) → 0 < c → IsFloor (floor_of z c) z c
is_floor (pos a) c p =
    let r = pos (a / c) in
    let k : a / c * c ≤ a = div-mul-le_self a c in
    let l : a < a / c * c + c = lt-div-mul-add p in
    record {
      not_above = omega (ints, mul_parts r (pos c));
      next_above = omega (ints, next_times r (pos c), sum_parts (r *ℤ pos c) (pos c), mul_parts r (pos c));
    }
is_floor (negsuc a) c p =
    let r = negsuc (a / c) in
    let k : a / c * c ≤ a = div-mul-le_self a c in
    let l : a < a / c * c + c = lt-div-mul-add p in
    record {
      not_above = omega (ints, mul_parts r (pos c), suc-mul (a / c) c);
      next_above = omega (ints, next_times r (pos c), sum_parts (r *ℤ pos c) (pos c), mul_parts r (pos c), suc-mul (a / c) c);
    }

-- No greater whole number is not above it.
pub floor_greatest : (w z : ℤ) (c : ℕ) → 0 < c → (w *ℤ pos c) ≤ℤ z → w ≤ℤ floor_of z c
floor_greatest w z c p h =
    let r = floor_of z c in
    let k : w <ℤ (r +ℤ pos 1) = mul_cancel_lt w (r +ℤ pos 1) c (lt_of_le_of_lt h (is_floor z c p).next_above) in
    omega (ints, sum_parts r (pos 1))

-- What is strictly above it is a greater whole number.
pub floor_below : (w z : ℤ) (c : ℕ) → 0 < c → z <ℤ (w *ℤ pos c) → floor_of z c <ℤ w
floor_below w z c p h = mul_cancel_lt (floor_of z c) w c (lt_of_le_of_lt (is_floor z c p).not_above h)

-- z / c ≤ w / d, so the floors are so too.
pub floor_rises : (z w : ℤ) (c d : ℕ) → 0 < c → 0 < d → (z *ℤ pos d) ≤ℤ (w *ℤ pos c) → floor_of z c ≤ℤ floor_of w d
floor_rises z w c d p q h =
    let r = floor_of z c in
    let k : (pos d *ℤ (r *ℤ pos c)) ≤ℤ (pos d *ℤ z) = mul_mono (pos d) (omega ints) (is_floor z c p).not_above in
    let e : (r *ℤ pos d) *ℤ pos c ≡ pos d *ℤ (r *ℤ pos c) = ap (λ (x : ℤ). x *ℤ pos c) (mul_comm r (pos d)) ∙ mul_assoc (pos d) r (pos c) in
    floor_greatest r w d q (mul_cancel (r *ℤ pos d) w c p (omega (ints, e, mul_comm (pos d) z)))

-- z / c is w / d, so the floors are one.
pub floor_same : (z w : ℤ) (c d : ℕ) → 0 < c → 0 < d → z *ℤ pos d ≡ w *ℤ pos c → floor_of z c ≡ floor_of w d
floor_same z w c d p q e = le_antisym (floor_rises z w c d p q (le_of_eq e)) (floor_rises w z d c q p (le_of_eq (sym e)))
