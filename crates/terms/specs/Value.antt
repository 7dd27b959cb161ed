-- Values: what a float stands for as a fraction of whole numbers, whether it is in range, and the coordinate that it becomes.
use Rattle.std.specs.Prelude.{Bool, true, false, ◌&&◌, ℕ, ◌*◌, ◌/◌, ℤ, pos, negsuc, neg_ℤ, ◌*ℤ◌, Float}
use Rattle.std.specs.Int.Signed.{le_z, lt_z}
use Rattle.std.specs.Float.{nan, inf, fin}
use Rattle.std.specs.Float.Ieee.{up, down}

-- A size with its sign, negative where that is true.
abbrev pub signed : Bool → ℕ → ℤ
signed false n = pos n
signed true n = neg_ℤ (pos n)

-- The float is a number: neither infinite nor what is no number.
abbrev pub is_finite : Float → Bool
is_finite nan = false
is_finite (inf s) = false
is_finite (fin s m e) = true

-- The numerator of a float's value: `fin s m e` is m times 2 to the e with the sign s, and 2 to the e is up e over down e.
abbrev pub numerator : Float → ℤ
numerator nan = pos 0
numerator (inf s) = pos 0
numerator (fin s m e) = signed s (m * up e)

-- Its denominator, a power of two.
abbrev pub denominator : Float → ℕ
denominator nan = 1
denominator (inf s) = 1
denominator (fin s m e) = down e

-- The value is finite, and from -128 up to but not including 128.
unfoldable pub in_range : Float → Bool
in_range v = is_finite v && (le_z (negsuc 127 *ℤ pos (denominator v)) (numerator v) && lt_z (numerator v) (pos 128 *ℤ pos (denominator v)))

-- The greatest whole number not above z / c.
abbrev pub floor_of : ℤ → ℕ → ℤ
floor_of (pos a) c = pos (a / c)
floor_of (negsuc a) c = negsuc (a / c)

-- The coordinate that a value becomes: the greatest whole number not above 256 times it.
unfoldable pub coordinate_of : Float → ℤ
coordinate_of v = floor_of (pos 256 *ℤ numerator v) (denominator v)
