-- How far a whole number is from 0: its absolute value `nat_abs`, and `mag`, which is n both for n and for -(n + 1).
use Rattle.std.specs.Prelude.{◌≡◌, refl, ℕ, suc, ◌+◌, ◌-◌, ◌*◌, ◌/◌, ◌≤◌, ℤ, pos, negsuc, neg_ℤ, nat_abs, ◌+ℤ◌, ◌-ℤ◌, ◌*ℤ◌, ◌≤ℤ◌}
use Rattle.std.proofs.Common.{div-le_self, arith}
use Rattle.std.specs.Int.Signed.{mag, quot_z}
use Rattle.whole.specs.Parts.{up, dn}
use Rattle.whole.proofs.Parts.{ints, sum_parts, dif_parts, abs_parts, neg_up, neg_dn}

pub abs_neg : (a : ℤ) → nat_abs (neg_ℤ a) ≡ nat_abs a
abs_neg a = omega (arith, abs_parts (neg_ℤ a), abs_parts a, neg_up a, neg_dn a)

pub abs_mul : (a b : ℤ) → nat_abs (a *ℤ b) ≡ nat_abs a * nat_abs b
abs_mul (pos a) (pos b) = refl
abs_mul (pos a) (negsuc b) = abs_neg (pos (a * suc b))
abs_mul (negsuc a) (pos b) = abs_neg (pos (suc a * b))
abs_mul (negsuc a) (negsuc b) = refl

pub abs_sum : (a b : ℤ) → nat_abs (a +ℤ b) ≤ nat_abs a + nat_abs b
abs_sum a b = omega (arith, sum_parts a b, abs_parts (a +ℤ b), abs_parts a, abs_parts b)

pub abs_dif : (a b : ℤ) → nat_abs (a -ℤ b) ≤ nat_abs a + nat_abs b
abs_dif a b = omega (arith, dif_parts a b, abs_parts (a -ℤ b), abs_parts a, abs_parts b)

pub abs_zero : {z : ℤ} → nat_abs z ≡ 0 → z ≡ pos 0
abs_zero {z} e = omega (ints, abs_parts z)

-- a number from -B to B has an absolute value of at most B
pub abs_le : (B : ℕ) {z : ℤ} → neg_ℤ (pos B) ≤ℤ z → z ≤ℤ pos B → nat_abs z ≤ B
abs_le B {z} h k = omega (ints, neg_up (pos B), neg_dn (pos B), abs_parts z)

-- a number whose absolute value is at most B is from -B to B
pub le_abs : (B : ℕ) (z : ℤ) → nat_abs z ≤ B → (neg_ℤ (pos B) ≤ℤ z) × (z ≤ℤ pos B)
le_abs B z h = omega (ints, neg_up (pos B), neg_dn (pos B), abs_parts z)

pub mag_abs : (z : ℤ) → mag z ≤ nat_abs z
mag_abs (pos n) = omega arith
mag_abs (negsuc n) = omega arith

-- `mag` by the parts
pub magnitude : (z : ℤ) → mag z ≡ (up z - dn z) + (dn z - suc (up z))
magnitude (pos n) = omega arith
magnitude (negsuc n) = omega arith

pub mag_quot : (z : ℤ) (n : ℕ) → mag (quot_z z (pos n)) ≤ mag z
mag_quot (pos a) n = div-le_self a n
mag_quot (negsuc a) n = omega (
  arith,
  magnitude (neg_ℤ (pos (suc a / n))),
  neg_up (pos (suc a / n)),
  neg_dn (pos (suc a / n)),
  div-le_self (suc a) n,
)
