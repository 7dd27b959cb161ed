-- 256 times a value in range: it is exact, so its bits are those of that number, and their floor is the coordinate.
use Rattle.std.specs.Prelude.{◌≡◌, refl, Bool, true, false, not, ℕ, ◌*◌, ◌≤◌, T, ℤ, pos, negsuc, ◌*ℤ◌, ◌≤ℤ◌, ◌<ℤ◌, Float}
use Rattle.std.proofs.Common.{sym, ap, ◌∙◌, arith}
use Rattle.std.specs.Float.{nan, inf, fin, binary32}
use Rattle.std.specs.Float.Ieee.{up, down, fits, of_bits, to_bits, is_nan}
use Rattle.std.specs.Float.Ieee.Exact.{HasValue}
use Rattle.std.specs.Float.Ieee.Fits.{down_pos, mul-fits}
use Rattle.whole.proofs.Parts.{ints, mul_parts, neg_up, neg_dn}
use Rattle.whole.proofs.Products.{mul_comm}
use Rattle.terms.specs.Value.{signed, floor_of, in_range, coordinate_of}
use Rattle.theory.specs.Flags.{clash}
use Rattle.theory.specs.Values.{in_range_lem, signed_times}
use Rattle.reading.specs.Exact.{scaled, product_is_exact}
use Rattle.reading.specs.Bits.{exponent_of, floor_of_bits, BitsOf, bits_of, floor_of_bits_lem, exponent_small}

-- What the code needs of a product that it floors.
pub record Floored (v y : Float) : Type 0 where
  pub number : T (not (is_nan y))
  pub small : exponent_of (to_bits binary32 y) ≤ 142
  pub floor : floor_of_bits (to_bits binary32 y) ≡ coordinate_of v

has_number : (y : Float) (s : Bool) (a c : ℕ) → HasValue y s a c → T (not (is_nan y))
unfolding is_nan
has_number nan s a c v = absurd v
has_number (inf t) s a c v = absurd v
has_number (fin t m e) s a c v = tt

-- At most 128 in size.
size_in_range : (s : Bool) (a c : ℕ) → (negsuc 127 *ℤ pos c) ≤ℤ signed s a → signed s a <ℤ (pos 128 *ℤ pos c) → a ≤ 128 * c
size_in_range false a c h k = omega (ints, h, k, mul_parts (pos 128) (pos c))
size_in_range true a c h k = omega (ints, h, mul_parts (negsuc 127) (pos c), neg_up (pos a), neg_dn (pos a))

-- 256 times a size with its sign.
signed_256 : (s : Bool) (a : ℕ) → signed s (a * 256) ≡ pos 256 *ℤ signed s a
signed_256 s a = sym (signed_times s a 256) ∙ mul_comm (signed s a) (pos 256)

pub scaled_is_floored : (v : Float) → T (fits binary32 v) → in_range v ≡ true → Floored v (scaled v)
unfolding coordinate_of
scaled_is_floored nan f t = clash (in_range_lem nan t).finite refl
scaled_is_floored (inf s) f t = clash (in_range_lem (inf s) t).finite refl
scaled_is_floored (fin s m e) f t =
    let v = fin s m e in
    let w = in_range_lem v t in
    let a = m * up e * 256 in
    let c = down e in
    let size : m * up e ≤ 128 * c = size_in_range s (m * up e) c w.from_least w.below_greatest in
    let h : HasValue (scaled v) s a c = product_is_exact s m e f size in
    let bits : BitsOf s a c (to_bits binary32 (scaled v)) = bits_of (scaled v) s a c (mul-fits binary32 v (of_bits binary32 1132462080)) h in
    record {
      number = has_number (scaled v) s a c h;
      small = exponent_small s a c _ (down_pos e) (omega (arith, size)) bits;
      floor = sym (floor_of_bits_lem s a c _ (down_pos e) bits) ∙ ap (λ (z : ℤ). floor_of z c) (signed_256 s (m * up e));
    }
