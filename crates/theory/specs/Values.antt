-- What a value becomes: the greatest whole number not above 256 times it, which is a coordinate where the value is in range, and never falls as the value
-- rises. Comparisons of floats are comparisons of their fractions.
use Rattle.std.specs.Prelude.{◌≡◌, refl, ◌⊎◌, Bool, true, false, ◌||◌, ℕ, ◌+◌, ◌*◌, ◌<◌, ℤ, pos, negsuc, neg_ℤ, ◌*ℤ◌, ◌≤ℤ◌, ◌<ℤ◌, eqb, Float}
use Rattle.std.proofs.Common.{sym, ap, ◌∙◌, inl, inr, arith, ltb-true, lt-ltb, eqb-true, eq-eqb}
use Rattle.std.specs.Bool.{beq}
use Rattle.std.specs.Int.Signed.{le_z, lt_z}
use Rattle.std.specs.Float.{nan, inf, fin}
use Rattle.std.specs.Float.Ieee.{up, down, below, level, le, lt, eq}
use Rattle.std.specs.Float.Ieee.Fits.{down_pos}
use Rattle.whole.proofs.Parts.{ints, flags, mul_parts, neg_up, neg_dn}
use Rattle.whole.proofs.Order.{le_of_eq, le_of_lt, le_antisym, le_z_le, le_le_z, lt_z_lt, lt_z_ge, ge_lt_z}
use Rattle.whole.proofs.Products.{neg_mul, mul_assoc, mul_mono}
use Rattle.terms.specs.Points.{is_coordinate}
use Rattle.terms.specs.Value.{signed, is_finite, numerator, denominator, in_range, coordinate_of}
use Rattle.theory.specs.Flags.{clash, same_test, and_true, true_and, or_true}
use Rattle.theory.specs.Floors.{IsFloor, is_floor, floor_greatest, floor_below, floor_rises}

pub denominator_pos : (v : Float) → 0 < denominator v
denominator_pos nan = omega arith
denominator_pos (inf s) = omega arith
denominator_pos (fin s m e) = down_pos e

-- A sign stays before a product.
pub signed_times : (s : Bool) (a c : ℕ) → signed s a *ℤ pos c ≡ signed s (a * c)
signed_times false a c = refl
signed_times true a c = neg_mul (pos a) (pos c)

-- "The greatest whole number not above 256 times v": r ≤ 256 v < r + 1.
pub coordinate_is_floor : (v : Float) → IsFloor (coordinate_of v) (pos 256 *ℤ numerator v) (denominator v)
unfolding coordinate_of
coordinate_is_floor v = is_floor (pos 256 *ℤ numerator v) (denominator v) (denominator_pos v)

-- "From -128 up to but not including 128."
pub record InRange (v : Float) : Type 0 where
  pub finite : is_finite v ≡ true
  pub from_least : (negsuc 127 *ℤ pos (denominator v)) ≤ℤ numerator v
  pub below_greatest : numerator v <ℤ (pos 128 *ℤ pos (denominator v))

pub in_range_lem : (v : Float) → in_range v ≡ true → InRange v
unfolding in_range
in_range_lem v e =
    let a = and_true (is_finite v) e in
    let b = and_true (le_z (negsuc 127 *ℤ pos (denominator v)) (numerator v)) a.1 in
    record { finite = a.0; from_least = le_z_le b.0; below_greatest = lt_z_lt b.1 }

-- What a value in range becomes is a coordinate.
pub coordinate_of_range : (v : Float) → in_range v ≡ true → is_coordinate (coordinate_of v) ≡ true
unfolding coordinate_of
coordinate_of_range v t =
    let n = numerator v in
    let c = denominator v in
    let w = in_range_lem v t in
    let least : (negsuc 32767 *ℤ pos c) ≤ℤ (pos 256 *ℤ n) = omega (ints, w.from_least, mul_parts (negsuc 32767) (pos c), mul_parts (negsuc 127) (pos c), mul_parts (pos 256) n) in
    let most : (pos 256 *ℤ n) <ℤ (pos 32768 *ℤ pos c) = omega (ints, w.below_greatest, mul_parts (pos 32768) (pos c), mul_parts (pos 128) (pos c), mul_parts (pos 256) n) in
    let r = coordinate_of v in
    let under : r <ℤ pos 32768 = floor_below (pos 32768) (pos 256 *ℤ n) c (denominator_pos v) most in
    let upper : r ≤ℤ pos 32767 = omega ints in
    true_and (le_le_z (floor_greatest (negsuc 32767) (pos 256 *ℤ n) c (denominator_pos v) least)) (le_le_z upper)

-- ---- comparisons of floats are comparisons of their fractions

below_is_lt : (s : Bool) (x : ℕ) (t : Bool) (y : ℕ) → below s x t y ≡ lt_z (signed s x) (signed t y)
below_is_lt false x false y = refl
below_is_lt false x true y = sym (ge_lt_z {a = pos x} {b = neg_ℤ (pos y)} (omega (ints, neg_up (pos y), neg_dn (pos y))))
below_is_lt true x false y =
    same_test
    (λ e. omega (flags, ltb-true 0 (x + y) e, neg_up (pos x), neg_dn (pos x)))
    (λ e. lt-ltb 0 (x + y) (omega (flags, neg_up (pos x), neg_dn (pos x))))
below_is_lt true x true y =
    same_test
    (λ e. omega (flags, ltb-true y x e, neg_up (pos x), neg_dn (pos x), neg_up (pos y), neg_dn (pos y)))
    (λ e. lt-ltb y x (omega (flags, neg_up (pos x), neg_dn (pos x), neg_up (pos y), neg_dn (pos y))))

-- Level sizes with their signs are one number.
level_is_same : (s : Bool) (x : ℕ) (t : Bool) (y : ℕ) → level s x t y ≡ true → signed s x ≡ signed t y
level_is_same s x t y e = go s t (and_true (eqb x y) e).1
  where
    same : x ≡ y
    same = eqb-true x y (and_true (eqb x y) e).0

    go : (s t : Bool) → beq s t || eqb x 0 ≡ true → signed s x ≡ signed t y
    go false false l = ap pos same
    go false true l = omega (ints, same, eqb-true x 0 l, neg_up (pos y), neg_dn (pos y))
    go true false l = omega (ints, same, eqb-true x 0 l, neg_up (pos x), neg_dn (pos x))
    go true true l = ap (λ (n : ℕ). neg_ℤ (pos n)) same

same_is_level : (s : Bool) (x : ℕ) (t : Bool) (y : ℕ) → signed s x ≡ signed t y → level s x t y ≡ true
same_is_level false x false y e = true_and (eq-eqb x y (omega ints)) refl
same_is_level false x true y e =
    true_and (eq-eqb x y (omega (ints, neg_up (pos y), neg_dn (pos y)))) (eq-eqb x 0 (omega (ints, neg_up (pos y), neg_dn (pos y))))
same_is_level true x false y e =
    true_and (eq-eqb x y (omega (ints, neg_up (pos x), neg_dn (pos x)))) (eq-eqb x 0 (omega (ints, neg_up (pos x), neg_dn (pos x))))
same_is_level true x true y e = true_and (eq-eqb x y (omega (ints, neg_up (pos x), neg_dn (pos x), neg_up (pos y), neg_dn (pos y)))) refl

-- Less, or the same.
lt_or_same : (a b : ℤ) (t : Bool) → (t ≡ true → a ≡ b) → (a ≡ b → t ≡ true) → lt_z a b || t ≡ le_z a b
lt_or_same a b t f g = same_test (λ e. there (or_true (lt_z a b) e)) (λ e. back e (lt_z a b) refl)
  where
    there : (lt_z a b ≡ true) ⊎ (t ≡ true) → le_z a b ≡ true
    there (inl l) = le_le_z {a = a} {b = b} (le_of_lt (lt_z_lt l))
    there (inr l) = le_le_z {a = a} {b = b} (le_of_eq (f l))

    back : le_z a b ≡ true → (s : Bool) → lt_z a b ≡ s → s || t ≡ true
    back e true l = refl
    back e false l = g (le_antisym {a = a} {b = b} (le_z_le e) (lt_z_ge l))

at_most_is_le : (s : Bool) (x : ℕ) (t : Bool) (y : ℕ) → below s x t y || level s x t y ≡ le_z (signed s x) (signed t y)
at_most_is_le s x t y =
    rw (below_is_lt s x t y)
    (lt_or_same (signed s x) (signed t y) (level s x t y) (level_is_same s x t y) (same_is_level s x t y))

pub lt_is_fractions : (v w : Float) → is_finite v ≡ true → is_finite w ≡ true
    → lt v w ≡ lt_z (numerator v *ℤ pos (denominator w)) (numerator w *ℤ pos (denominator v))
unfolding lt
lt_is_fractions nan w f g = clash f refl
lt_is_fractions (inf s) w f g = clash f refl
lt_is_fractions (fin s m e) nan f g = clash g refl
lt_is_fractions (fin s m e) (inf t) f g = clash g refl
lt_is_fractions (fin s m e) (fin t n d) f g =
    rw (signed_times s (m * up e) (down d), signed_times t (n * up d) (down e)) (below_is_lt s (m * up e * down d) t (n * up d * down e))

pub le_is_fractions : (v w : Float) → is_finite v ≡ true → is_finite w ≡ true
    → le v w ≡ le_z (numerator v *ℤ pos (denominator w)) (numerator w *ℤ pos (denominator v))
unfolding le lt eq
le_is_fractions nan w f g = clash f refl
le_is_fractions (inf s) w f g = clash f refl
le_is_fractions (fin s m e) nan f g = clash g refl
le_is_fractions (fin s m e) (inf t) f g = clash g refl
le_is_fractions (fin s m e) (fin t n d) f g =
    rw (signed_times s (m * up e) (down d), signed_times t (n * up d) (down e)) (at_most_is_le s (m * up e * down d) t (n * up d * down e))

-- The coordinate never falls as the value rises.
pub coordinate_rises : (v w : Float) → is_finite v ≡ true → is_finite w ≡ true → le v w ≡ true → coordinate_of v ≤ℤ coordinate_of w
unfolding coordinate_of
coordinate_rises v w f g e =
    let n = numerator v in
    let o = numerator w in
    let c = pos (denominator v) in
    let d = pos (denominator w) in
    let h : (n *ℤ d) ≤ℤ (o *ℤ c) = le_z_le (sym (le_is_fractions v w f g) ∙ e) in
    let k : (pos 256 *ℤ (n *ℤ d)) ≤ℤ (pos 256 *ℤ (o *ℤ c)) = mul_mono (pos 256) (omega ints) h in
    floor_rises (pos 256 *ℤ n) (pos 256 *ℤ o) (denominator v) (denominator w) (denominator_pos v) (denominator_pos w)
    (rw (mul_assoc (pos 256) n d, mul_assoc (pos 256) o c) k)
