-- When a whole number has a place in a signed machine number of a width, and what is read back of one that was written.
use Rattle.std.specs.Prelude.{◌≡◌, ℕ, ◌+◌, ◌*◌, ◌^◌, ◌≤◌, ◌<◌, ℤ, pos, nat_abs, ◌+ℤ◌, ◌-ℤ◌, ◌*ℤ◌, T, ltb, leb}
use Rattle.std.proofs.Common.{sym, ap, ◌∙◌, mul-le-mul, arith, ltb→lt, to_z-of_z}
use Rattle.std.specs.Int.Signed.{mag, quot_z, nat_abs-le}
use Rattle.std.specs.Int.{Width, w32, w64}
use mir.Val.{SFits, hbits, to_z, of_z}
use Rattle.std.proofs.Math.Facts.{sfits_widen}
use Rattle.whole.specs.Parts.{up, dn}
use Rattle.whole.proofs.Parts.{to≡, flags}
use Rattle.whole.proofs.Magnitudes.{abs_mul, abs_sum, abs_dif, mag_abs, mag_quot}

pub sfits_mag : {w : Width} {z : ℤ} → mag z < 2 ^ hbits w → SFits w z
sfits_mag h = record { sfits = h }

pub sfits_abs : {w : Width} {z : ℤ} → nat_abs z < 2 ^ hbits w → SFits w z
sfits_abs {w} {z} h = omega (arith, mag_abs z)

pub abs_sfits : {w : Width} {z : ℤ} → SFits w z → nat_abs z ≤ 2 ^ hbits w
abs_sfits {w} {z} f = nat_abs-le z f.sfits

-- the bounds are numerals: `fits_abs_le 65535 h tt`
pub fits_abs_le : {w : Width} {z : ℤ} (B : ℕ) → nat_abs z ≤ B → T (ltb B (2 ^ hbits w)) → SFits w z
fits_abs_le {w} {z} B h t = omega (arith, ltb→lt, mag_abs z)

-- `fits_sum a b 32767 32768 h k tt`
pub fits_sum : {w : Width} (a b : ℤ) (A B : ℕ) → nat_abs a ≤ A → nat_abs b ≤ B → T (ltb (A + B) (2 ^ hbits w))
    → SFits w (a +ℤ b)
fits_sum {w} a b A B h k t = fits_abs_le (A + B) (omega (arith, abs_sum a b)) t

pub fits_dif : {w : Width} (a b : ℤ) (A B : ℕ) → nat_abs a ≤ A → nat_abs b ≤ B → T (ltb (A + B) (2 ^ hbits w))
    → SFits w (a -ℤ b)
fits_dif {w} a b A B h k t = fits_abs_le (A + B) (omega (arith, abs_dif a b)) t

pub fits_product : {w : Width} (a b : ℤ) (A B : ℕ) → nat_abs a ≤ A → nat_abs b ≤ B → T (ltb (A * B) (2 ^ hbits w))
    → SFits w (a *ℤ b)
fits_product {w} a b A B h k t = fits_abs_le (A * B) (omega (arith, abs_mul a b, mul-le-mul h k)) t

pub fits_quot : {w : Width} (n : ℕ) {z : ℤ} → SFits w z → SFits w (quot_z z (pos n))
fits_quot n {z} f = omega (arith, mag_quot z n)

-- what an `i32` holds an `i64` holds
pub widen : {z : ℤ} → SFits w32 z → SFits w64 z
widen f = sfits_widen tt f

-- a number that fits is read back as it was written
pub back : {w : Width} {z : ℤ} → SFits w z → up (to_z w (of_z w z)) + dn z ≡ up z + dn (to_z w (of_z w z))
back f = to≡ (to_z-of_z f)

-- a cast to a width that is no smaller: `wide_back w64 tt f`
pub wide_back : {v : Width} {z : ℤ} (w : Width) → T (leb (hbits v) (hbits w)) → SFits v z
    → to_z w (of_z w (to_z v (of_z v z))) ≡ z
wide_back {v} w t f = ap (λ (u : ℤ). to_z w (of_z w u)) (to_z-of_z f) ∙ to_z-of_z (sfits_widen t f)

-- equal bits, equal numbers
pub same : {w : Width} {a b : ℤ} → SFits w a → SFits w b → of_z w a ≡ of_z w b → a ≡ b
same {w} f g e = sym (to_z-of_z f) ∙ ap (to_z w) e ∙ to_z-of_z g

-- `flags`, and what is read back of a signed local
pub ruleset machine = (flags, back)
