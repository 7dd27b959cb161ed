-- The test of a value, by what the value is: what is not finite is out of range, and of what is the machine's comparisons are those of its fraction.
use Rattle.std.specs.Prelude.{◌≡◌, refl, Bool, true, false, ◌&&◌, not, ℕ, ℤ, pos, negsuc, ◌*ℤ◌, Float}
use Rattle.std.specs.Int.Signed.{le_z, lt_z}
use Rattle.std.specs.Float.{nan, inf, fin}
use Rattle.std.specs.Float.Ieee.{le, lt, eq}
use Rattle.whole.proofs.Products.{mul_one}
use Rattle.terms.specs.Value.{is_finite, numerator, denominator, in_range}
use Rattle.theory.specs.Values.{le_is_fractions, lt_is_fractions}

-- The fraction is at least -128, and below 128.
abbrev pub bounds : Float → Bool
bounds v = le_z (negsuc 127 *ℤ pos (denominator v)) (numerator v) && lt_z (numerator v) (pos 128 *ℤ pos (denominator v))

-- An answer is the test of the value: no for what is not finite, and for a finite value both bounds of its fraction.
pub tested : (v : Float) (t : Bool) → (v ≡ nan → t ≡ false) → ((s : Bool) → v ≡ inf s → t ≡ false) → (is_finite v ≡ true → t ≡ bounds v)
    → t ≡ in_range v
unfolding in_range
tested nan t none infinite finite = none refl
tested (inf s) t none infinite finite = infinite s refl
tested (fin s m e) t none infinite finite = finite refl

-- What is no number is neither below a float nor above it.
pub lt_of_none : (w : Float) → lt nan w ≡ false
unfolding lt
lt_of_none w = refl

pub none_of_le : (s : Bool) (m : ℕ) (e : ℤ) → le (fin s m e) nan ≡ false
unfolding le lt eq
none_of_le s m e = refl

-- Infinity is above every finite float, and with a minus below.
pub infinite_of_le : (s : Bool) (m : ℕ) (e : ℤ) (t : Bool) → le (fin s m e) (inf t) ≡ not t
unfolding le lt eq
infinite_of_le s m e true = refl
infinite_of_le s m e false = refl

pub lt_of_infinite : (s : Bool) (m : ℕ) (e : ℤ) (t : Bool) → lt (inf t) (fin s m e) ≡ t
unfolding lt
lt_of_infinite s m e t = refl

-- The comparisons with -128, which is -1 times 2 to the 7, and with 128.
pub compared : (v : Float) → is_finite v ≡ true → le (fin true 1 (pos 7)) v && lt v (fin false 1 (pos 7)) ≡ bounds v
compared v f =
    rw (le_is_fractions (fin true 1 (pos 7)) v refl f, lt_is_fractions v (fin false 1 (pos 7)) f refl, mul_one (numerator v)) refl
