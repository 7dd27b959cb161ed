-- Ranges of numbers: at most ten digits and 32 signed bits each are a range; a number within one has its place; and range tests of a list are tests of
-- its parts.
use Rattle.std.specs.Prelude.{◌≡◌, Bool, true, List, ◌++◌, ℕ, ◌^◌, ◌≤◌, ◌<◌, length, ℤ, pos, negsuc, nat_abs}
use Rattle.std.proofs.Common.{sym, ◌∙◌, arith, to_z-of_z, le-leb, leb-true}
use Rattle.std.proofs.Math.Nat.{pow-le-pow_right}
use Rattle.std.specs.Int.Signed.{le_z}
use Rattle.std.specs.Int.{Width, w32, w64}
use mir.Val.{SFits, hbits, to_z, of_z}
use Rattle.whole.proofs.Parts.{flags, abs_parts}
use Rattle.whole.proofs.Fits.{sfits_mag, widen}
use Rattle.terms.specs.Tests.{every}
use Rattle.theory.specs.Flags.{and_true, true_and}
use Rattle.theory.specs.Counting.{every_append}
use Rattle.text.specs.Decimal.{decimal}
use Rattle.text.specs.DecimalLaws.{decimal_all_digits, decimal_length, value_bound, value_decimal}
use Rattle.text.specs.Input.{is_signed32, is_short}
use Rattle.text.specs.Reading.{InRange}

-- ---- at most ten digits
pub short_size : (z : ℤ) → is_short z ≡ true → nat_abs z ≤ 9999999999
unfolding is_short
short_size z e =
    let l = leb-true (length (decimal (nat_abs z))) 10 e in
    let p : 10 ^ length (decimal (nat_abs z)) ≤ 10 ^ 10 = pow-le-pow_right (omega arith) l in
    omega (arith, value_bound 0 (decimal_all_digits (nat_abs z)), value_decimal (nat_abs z))

pub size_short : (z : ℤ) → nat_abs z ≤ 9999999999 → is_short z ≡ true
unfolding is_short
size_short z l = le-leb (length (decimal (nat_abs z))) 10 (decimal_length (nat_abs z) 9 (omega arith))

size_range : {most : ℕ} (z : ℤ) → nat_abs z ≤ most → InRange most most z
size_range (pos n) l = record { down = omega arith; upward = l }
size_range (negsuc n) l = record { down = l; upward = omega arith }

pub short_range : (z : ℤ) → is_short z ≡ true → InRange 9999999999 9999999999 z
short_range z e = size_range z (short_size z e)

pub range_short : (z : ℤ) → InRange 9999999999 9999999999 z → is_short z ≡ true
range_short z r = size_short z (omega (arith, abs_parts z))

-- ---- 32 signed bits
pub signed_range : (z : ℤ) → is_signed32 z ≡ true → InRange 2147483648 2147483647 z
signed_range z e = go z (and_true (le_z (negsuc 2147483647) z) e)
  where
    go : (z : ℤ) → (le_z (negsuc 2147483647) z ≡ true) × (le_z z (pos 2147483647) ≡ true) → InRange 2147483648 2147483647 z
    go (pos n) p = record { down = omega flags; upward = omega flags }
    go (negsuc n) p = record { down = omega flags; upward = omega flags }

pub range_signed : (z : ℤ) → InRange 2147483648 2147483647 z → is_signed32 z ≡ true
range_signed z r =
    true_and {s = le_z (negsuc 2147483647) z} {t = le_z z (pos 2147483647)} (omega flags) (omega flags)

-- ---- the place of a number
pub range_fits : {w : Width} {deepest greatest : ℕ} (z : ℤ) → InRange deepest greatest z → deepest ≤ 2 ^ hbits w → greatest < 2 ^ hbits w → SFits w z
range_fits (pos n) r d g = sfits_mag (omega arith)
range_fits (negsuc n) r d g = sfits_mag (omega arith)

pub signed_fits : (z : ℤ) → InRange 2147483648 2147483647 z → SFits w32 z
signed_fits z r = range_fits z r (omega arith) (omega arith)

-- A number that was read, as it is read back from a place of 32 bits.
pub signed_back : (z : ℤ) → InRange 2147483648 2147483647 z → to_z w32 (of_z w32 (to_z w64 (of_z w64 z))) ≡ z
signed_back z r = rw (to_z-of_z (widen (signed_fits z r)), to_z-of_z (signed_fits z r))

-- ---- tests of a whole list
pub parts_every : {A : Type 0} (test : A → Bool) (xs ys : List A) → every test xs ≡ true → every test ys ≡ true → every test (xs ++ ys) ≡ true
parts_every test xs ys p q = every_append test xs ys ∙ true_and p q

pub every_parts : {A : Type 0} (test : A → Bool) (xs ys : List A) → every test (xs ++ ys) ≡ true → (every test xs ≡ true) × (every test ys ≡ true)
every_parts test xs ys p = and_true (every test xs) (sym (every_append test xs ys) ∙ p)
