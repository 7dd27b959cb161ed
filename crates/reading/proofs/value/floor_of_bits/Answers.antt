-- Each way out is one step of the floor from bits; the quotients have 24 digits at most, so they fit.
use Prim.Native.Nat.{ℕ, ◌+◌, ◌-◌, ◌%◌, ◌/◌, ◌^◌, ◌<◌}
use native.Mathlib.Nat.{div-le_self, lt_of_le_of_lt}
use native.Mathlib.Omega.{arith}
use mathlib.Core.Path.{◌≡◌, sym, ◌∙◌, ap}
use lib.IntN.{ℤ, pos, negsuc, ◌-ℤ◌}
use mir.Syntax.{w32}
use mir.Val.{to_z}
use mir.Facts.{to_z-of_z, to_z_pos}
use Rattle.whole.proofs.Parts.{ints, dif_parts}
use Rattle.reading.specs.Bits.{exponent_of, bits_below_one, bits_below_zero, bits_above, bits_below}
use Rattle.reading.proofs.value.floor_of_bits.Goals as goal

-- A quotient of 24 digits.
quotient_fits : (n k : ℕ) → n < 2 ^ 31 → n / 2 ^ k < 2 ^ 31
quotient_fits n k h = lt_of_le_of_lt (div-le_self n (2 ^ k)) h

-- -1 less q is -(q + 1).
minus_one_less : (q : ℕ) → q < 2 ^ 31 → negsuc 0 -ℤ to_z w32 q ≡ negsuc q
minus_one_less q h = ap (λ (z : ℤ). negsuc 0 -ℤ z) (to_z_pos w32 h) ∙ omega (ints, dif_parts (negsuc 0) (pos q))

-- The digits of the bits, over the power that the shift is.
above_fits : (b k : ℕ) → (8388608 + b % 8388608) / 2 ^ k < 2 ^ 31
above_fits b k = quotient_fits (8388608 + b % 8388608) k (omega arith)

below_fits : (b k : ℕ) → (8388608 + b % 8388608 - 1) / 2 ^ k < 2 ^ 31
below_fits b k = quotient_fits (8388608 + b % 8388608 - 1) k (omega arith)

pub returns-then-bits-le2147483648 : goal.returns-then-bits-le2147483648
returns-then-bits-le2147483648 c = sym (bits_below_one c.args.bits (omega arith) (omega arith))

pub returns-then-exponent-lt127 : goal.returns-then-exponent-lt127
returns-then-exponent-lt127 c = sym (bits_below_zero c.args.bits (omega arith) (omega arith) (omega arith))

pub returns-then-bits-lt2147483648 : goal.returns-then-bits-lt2147483648
returns-then-bits-lt2147483648 c =
    let b = c.args.bits in
    to_z_pos w32 (above_fits b (150 - exponent_of b)) ∙ sym (bits_above b (omega arith) (omega arith) (omega arith))

pub overflow_sub-result : goal.overflow_sub-result
overflow_sub-result c =
    let b = c.args.bits in
    let h = below_fits b (150 - exponent_of b) in
    rw (minus_one_less _ h) (record { sfits = h })

pub returns : goal.returns
returns c =
    let b = c.args.bits in
    to_z-of_z (overflow_sub-result c)
    ∙ minus_one_less _ (below_fits b (150 - exponent_of b))
    ∙ sym (bits_below b (omega arith) (omega arith) (omega arith))
