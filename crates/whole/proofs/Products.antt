-- Products of whole numbers, and how the order goes with them.
use Rattle.std.specs.Prelude.{◌≡◌, ℕ, zero, suc, ◌+◌, ◌*◌, ◌≤◌, ◌<◌, ℤ, pos, negsuc, neg_ℤ, ◌+ℤ◌, ◌-ℤ◌, ◌*ℤ◌, ◌≤ℤ◌, ◌<ℤ◌}
use Rattle.std.proofs.Common.{ap, ◌∙◌, mul-le-mul_left, add-mul, le_of_mul-le-mul_right, lt_of_mul-lt-mul_right}
use Rattle.whole.specs.Parts.{up, dn}
use Rattle.whole.proofs.Parts.{ints, to≤, sum_parts, dif_parts, mul_parts, neg_up, neg_dn}

pub mul_comm : (a b : ℤ) → a *ℤ b ≡ b *ℤ a
mul_comm a b = omega (ints, mul_parts a b, mul_parts b a)

pub mul_assoc : (a b c : ℤ) → (a *ℤ b) *ℤ c ≡ a *ℤ (b *ℤ c)
mul_assoc a b c = omega (
  ints,
  mul_parts (a *ℤ b) c,
  mul_parts a (b *ℤ c),
  ap (λ (k : ℕ). k * up c) (mul_parts a b),
  ap (λ (k : ℕ). k * dn c) (mul_parts a b),
  ap (λ (k : ℕ). up a * k) (mul_parts b c),
  ap (λ (k : ℕ). dn a * k) (mul_parts b c),
)

pub mul_zero : (a : ℤ) → a *ℤ pos 0 ≡ pos 0
mul_zero a = omega (ints, mul_parts a (pos 0))

pub zero_mul : (a : ℤ) → pos 0 *ℤ a ≡ pos 0
zero_mul a = omega (ints, mul_parts (pos 0) a)

pub mul_one : (a : ℤ) → a *ℤ pos 1 ≡ a
mul_one a = omega (ints, mul_parts a (pos 1))

pub one_mul : (a : ℤ) → pos 1 *ℤ a ≡ a
one_mul a = omega (ints, mul_parts (pos 1) a)

pub mul_neg : (a b : ℤ) → a *ℤ neg_ℤ b ≡ neg_ℤ (a *ℤ b)
mul_neg a b = omega (
  ints,
  mul_parts a (neg_ℤ b),
  mul_parts a b,
  ap (λ (k : ℕ). up a * k) (neg_up b),
  ap (λ (k : ℕ). dn a * k) (neg_up b),
  ap (λ (k : ℕ). up a * k) (neg_dn b),
  ap (λ (k : ℕ). dn a * k) (neg_dn b),
  neg_up (a *ℤ b),
  neg_dn (a *ℤ b),
)

pub neg_mul : (a b : ℤ) → neg_ℤ a *ℤ b ≡ neg_ℤ (a *ℤ b)
neg_mul a b = mul_comm (neg_ℤ a) b ∙ mul_neg b a ∙ ap neg_ℤ (mul_comm b a)

-- a factor goes into a sum
pub mul_sum : (a b c : ℤ) → a *ℤ (b +ℤ c) ≡ a *ℤ b +ℤ a *ℤ c
mul_sum a b c = omega (
  ints,
  mul_parts a (b +ℤ c),
  mul_parts a b,
  mul_parts a c,
  sum_parts (a *ℤ b) (a *ℤ c),
  ap (λ (k : ℕ). up a * k) (sum_parts b c),
  ap (λ (k : ℕ). dn a * k) (sum_parts b c),
)

-- a factor goes into a difference
pub mul_dif : (a b c : ℤ) → a *ℤ (b -ℤ c) ≡ a *ℤ b -ℤ a *ℤ c
mul_dif a b c = omega (
  ints,
  mul_parts a (b -ℤ c),
  mul_parts a b,
  mul_parts a c,
  dif_parts (a *ℤ b) (a *ℤ c),
  ap (λ (k : ℕ). up a * k) (dif_parts b c),
  ap (λ (k : ℕ). dn a * k) (dif_parts b c),
)

-- a factor that is not negative keeps the order
pub mul_mono : (n : ℤ) {x y : ℤ} → pos 0 ≤ℤ n → x ≤ℤ y → (n *ℤ x) ≤ℤ (n *ℤ y)
mul_mono (pos n) {x} {y} p h =
    omega (ints, mul_parts (pos n) x, mul_parts (pos n) y, mul-le-mul_left n (to≤ h))
mul_mono (negsuc n) p h = absurd p.le

-- a factor that is not positive turns the order round
pub mul_anti : (n : ℤ) {x y : ℤ} → n ≤ℤ pos 0 → x ≤ℤ y → (n *ℤ y) ≤ℤ (n *ℤ x)
mul_anti (pos zero) {x} {y} p h = omega (ints, mul_parts (pos 0) x, mul_parts (pos 0) y)
mul_anti (pos (suc n)) p h = absurd (omega ints)
mul_anti (negsuc n) {x} {y} p h =
    omega (ints, mul_parts (negsuc n) x, mul_parts (negsuc n) y, mul-le-mul_left (suc n) (to≤ h))

pub mul_nonneg : {a b : ℤ} → pos 0 ≤ℤ a → pos 0 ≤ℤ b → pos 0 ≤ℤ (a *ℤ b)
mul_nonneg {a} {b} h k = omega (ints, mul_mono a h k, mul_zero a)

pub square_nonneg : (z : ℤ) → pos 0 ≤ℤ (z *ℤ z)
square_nonneg (pos n) = omega (ints, mul_parts (pos n) (pos n))
square_nonneg (negsuc n) = omega (ints, mul_parts (negsuc n) (negsuc n))

-- a positive factor that both sides have can go
pub mul_cancel : (a b : ℤ) (c : ℕ) → 0 < c → (a *ℤ pos c) ≤ℤ (b *ℤ pos c) → a ≤ℤ b
mul_cancel a b c p h =
    let l : (up a + dn b) * c ≤ (up b + dn a) * c = omega (ints, mul_parts a (pos c), mul_parts b (pos c), add-mul (up a) (dn b) c, add-mul (up b) (dn a) c) in
    let k : up a + dn b ≤ up b + dn a = le_of_mul-le-mul_right l p in
    omega ints

pub mul_cancel_lt : (a b : ℤ) (c : ℕ) → (a *ℤ pos c) <ℤ (b *ℤ pos c) → a <ℤ b
mul_cancel_lt a b c h =
    let l : (up a + dn b) * c < (up b + dn a) * c = omega (ints, mul_parts a (pos c), mul_parts b (pos c), add-mul (up a) (dn b) c, add-mul (up b) (dn a) c) in
    let k : up a + dn b < up b + dn a = lt_of_mul-lt-mul_right c l in
    omega ints
