-- The floor from a float's bits: what the sign, the exponent and the fraction of an `f32` say of its value. Every value is a number of the smallest ones,
-- 2 to the -149 each; from 1 on in size that number over 2 to the 149 is the 24 digits over a small power of two.
use Rattle.std.specs.Prelude.{◌≡◌, refl, Bool, true, false, not, cond, ℕ, zero, suc, ◌+◌, ◌-◌, ◌*◌, ◌/◌, ◌%◌, ◌^◌, ◌≤◌, ◌<◌, T, eqb, leb, ℤ, pos, negsuc, Float}
use Rattle.std.proofs.Common.{sym, ap, ◌∙◌, subst, le_trans, le_of_eq, le_of_suc-le-suc, lt_of_lt_of_le, lt_of_not-le, lt_irrefl, mul-one, mul_assoc, mul_right_comm, mul-le-mul_right, mul-le-mul_left, mul-lt-mul_of_pos_right, le_of_mul-le-mul_right, mod-lt, le-add_right, mul-pos, arith, leb→le, le→leb, eqb→eq, lit<, lit≤, le-leb, pow-add, pow_pos, pow_mono}
use Rattle.std.proofs.Math.Nat.{eq_of_mul-eq-mul_right, div-eq_of_lt}
use Rattle.std.proofs.Math.Dec.{not_T}
use Rattle.std.proofs.lemmas.Bool.{lt-leb}
use Rattle.std.specs.Float.{nan, inf, fin, binary32}
use Rattle.std.specs.Float.Ieee.{up, down, odd, of_fields, of_bits, to_bits, fits}
use Rattle.std.specs.Float.Ieee.Exact.{HasValue, odd_sign}
use Rattle.std.specs.Float.Ieee.Bits.{of_bits-to_bits, cond_no}
use Rattle.std.specs.Float.Ieee.Fits.{down_pos}
use Rattle.terms.specs.Value.{signed, floor_of}
use Rattle.theory.specs.Floors.{floor_same}
use Rattle.theory.specs.Values.{signed_times}

-- ---- the fields

-- The exponent's field of the bits.
abbrev pub exponent_of : ℕ → ℕ
exponent_of b = b % 2147483648 / 8388608

-- The fraction's field.
abbrev pub fraction_of : ℕ → ℕ
fraction_of b = b % 8388608

-- How many of the smallest values an exponent and a fraction stand for.
abbrev pub smallest : ℕ → ℕ → ℕ
smallest zero t = t
smallest (suc x) t = (8388608 + t) * 2 ^ x

-- The floor of the value that has the bits b.
unfoldable pub floor_of_bits : ℕ → ℤ
floor_of_bits b = floor_of (signed (leb 2147483648 b) (smallest (exponent_of b) (fraction_of b))) (2 ^ 149)

-- ---- what the fields stand for
field_below : (x : ℕ) → suc x < 255 → T (not (eqb (suc x) 255))
field_below x h = not_T (eqb (suc x) 255) (λ t. let e : suc x ≡ 255 = eqb→eq (suc x) 255 t in omega (arith, h, e))

fields_value : (s : Bool) (x t : ℕ) → x < 255 → HasValue (of_fields binary32 s x t) s (smallest x t) (2 ^ 149)
unfolding of_fields
fields_value s zero t h = subst (λ (n : ℕ). HasValue (odd 24 s t 0 149) s n (2 ^ 149)) (mul-one t) (odd_sign 24 s t 0 149)
fields_value s (suc x) t h =
    subst
    (λ (v : Float). HasValue v s ((8388608 + t) * 2 ^ x) (2 ^ 149))
    (sym (cond_no (eqb (suc x) 255) (cond (eqb t 0) (inf s) nan) (odd 24 s (8388608 + t) x 149) (field_below x h)))
    (odd_sign 24 s (8388608 + t) x 149)

-- Of a finite value the exponent's field is not the highest.
no_value : (s r : Bool) (t : Bool) (a c : ℕ) → HasValue (cond t (inf s) nan) r a c → ⊥
no_value s r true a c v = v
no_value s r false a c v = v

finite_below : (s r : Bool) (x t a c : ℕ) → x < 256 → HasValue (of_fields binary32 s x t) r a c → x < 255
unfolding of_fields
finite_below s r x t a c h v =
    lt_of_not-le
    (λ (g : 255 ≤ x).
    let e : x ≡ 255 = omega (arith, h, g) in
    no_value s r (eqb t 0) a c (subst (λ (y : ℕ). HasValue (of_fields binary32 s y t) r a c) e v))

-- A value has one sign and one size.
same_value : (y : Float) (r s : Bool) (a c b d : ℕ) → HasValue y r a c → HasValue y s b d → (r ≡ s) × (a * d ≡ b * c)
same_value nan r s a c b d v w = absurd v
same_value (inf t) r s a c b d v w = absurd v
same_value (fin t m e) r s a c b d v w = (
  sym v.0 ∙ w.0,
  eq_of_mul-eq-mul_right
      (down e)
      (down_pos e)
      (a * d)
      (b * c)
      (mul_right_comm a d (down e)
      ∙ ap (λ (k : ℕ). k * d) (sym v.1)
      ∙ mul_right_comm (m * up e) c d
      ∙ ap (λ (k : ℕ). k * c) w.1
      ∙ mul_right_comm b (down e) c),
)

-- The bits b are those of the value a / c with the sign s.
pub record BitsOf (s : Bool) (a c b : ℕ) : Type 0 where
  pub sign : s ≡ leb 2147483648 b
  pub size : a * 2 ^ 149 ≡ smallest (exponent_of b) (fraction_of b) * c

read_bits : (b : ℕ) (s : Bool) (a c : ℕ) → HasValue (of_bits binary32 b) s a c → BitsOf s a c b
unfolding of_bits
read_bits b s a c v =
    let r = leb 2147483648 b in
    let x = exponent_of b in
    let t = fraction_of b in
    let h : x < 256 = omega arith in
    let w = fields_value r x t (finite_below r s x t a c h v) in
    let z = same_value (of_fields binary32 r x t) s r a c (smallest x t) (2 ^ 149) v w in
    record { sign = z.0; size = z.1 }

pub bits_of : (y : Float) (s : Bool) (a c : ℕ) → T (fits binary32 y) → HasValue y s a c → BitsOf s a c (to_bits binary32 y)
bits_of y s a c f v =
    read_bits (to_bits binary32 y) s a c (subst (λ (u : Float). HasValue u s a c) (sym (of_bits-to_bits binary32 y f)) v)

-- Equal sizes with one sign have one floor.
same_size : (s : Bool) (a c b d : ℕ) → 0 < c → 0 < d → a * d ≡ b * c → floor_of (signed s a) c ≡ floor_of (signed s b) d
same_size s a c b d p q e =
    floor_same (signed s a) (signed s b) c d p q (signed_times s a d ∙ ap (signed s) e ∙ sym (signed_times s b c))

-- The floor of a value is that of its bits.
pub floor_of_bits_lem : (s : Bool) (a c b : ℕ) → 0 < c → BitsOf s a c b → floor_of (signed s a) c ≡ floor_of_bits b
unfolding floor_of_bits
floor_of_bits_lem s a c b p o =
    same_size s a c (smallest (exponent_of b) (fraction_of b)) (2 ^ 149) p (pow_pos 149) o.size
    ∙ ap (λ (r : Bool). floor_of (signed r (smallest (exponent_of b) (fraction_of b))) (2 ^ 149)) o.sign

-- ---- a size of at most 32,768 has an exponent's field of at most 142
many_smallest : (x t : ℕ) → 143 ≤ x → 2 ^ 165 ≤ smallest x t
many_smallest zero t h = absurd (omega (arith, h))
many_smallest (suc x) t h =
    le_trans
    (mul-le-mul_left 8388608 (pow_mono {i = 142} {j = x} (omega (arith, h))))
    (mul-le-mul_right (2 ^ x) (le-add_right 8388608 t))

pub exponent_small : (s : Bool) (a c b : ℕ) → 0 < c → a ≤ 32768 * c → BitsOf s a c b → exponent_of b ≤ 142
exponent_small s a c b p h o =
    le_of_suc-le-suc
    (lt_of_not-le
    (λ (g : 143 ≤ exponent_of b).
    let most : smallest (exponent_of b) (fraction_of b) ≤ 2 ^ 164 =
    le_of_mul-le-mul_right
    (le_trans (le_of_eq (sym o.size)) (le_trans (mul-le-mul_right (2 ^ 149) h) (le_of_eq (mul_right_comm 32768 c (2 ^ 149)))))
    p in
    lt_irrefl (2 ^ 164) (lt_of_lt_of_le (lit< tt) (le_trans (many_smallest (exponent_of b) (fraction_of b) g) most))))

-- ---- the floor by the machine's steps: below 1 in size
few_smallest : (x t : ℕ) → x < 127 → t < 8388608 → smallest x t < 2 ^ 149
few_smallest zero t h l = lt_of_lt_of_le l (lit≤ tt)
few_smallest (suc x) t h l =
    let k : 8388608 + t < 16777216 = omega (arith, l) in
    lt_of_lt_of_le (mul-lt-mul_of_pos_right k (pow_pos x)) (mul-le-mul_left 16777216 (pow_mono {i = x} {j = 125} (omega (arith, h))))

none_smallest : (x t : ℕ) → smallest x t ≡ 0 → (x ≡ 0) × (t ≡ 0)
none_smallest zero t e = (refl, e)
none_smallest (suc x) t e =
    let h : 0 < 8388608 + t = omega arith in
    absurd (lt_irrefl 0 (subst (λ (n : ℕ). 0 < n) e (mul-pos h (pow_pos x))))

floor_zero : (s : Bool) (u c : ℕ) → u < c → (T s → u ≡ 0) → floor_of (signed s u) c ≡ pos 0
floor_zero false u c h z = ap pos (div-eq_of_lt h)
floor_zero true zero c h z = ap pos (div-eq_of_lt h)
floor_zero true (suc u) c h z = absurd (let e : suc u ≡ 0 = z tt in omega (arith, e))

floor_minus_one : (s : Bool) (u c : ℕ) → u < c → T s → (u ≡ 0 → ⊥) → floor_of (signed s u) c ≡ negsuc 0
floor_minus_one false u c h t z = absurd t
floor_minus_one true zero c h t z = absurd (z refl)
floor_minus_one true (suc u) c h t z = ap negsuc (div-eq_of_lt (omega (arith, h)))

-- Zero, negative zero, and above 0 below 1.
pub bits_below_one : (b : ℕ) → exponent_of b < 127 → b ≤ 2147483648 → floor_of_bits b ≡ pos 0
unfolding floor_of_bits
bits_below_one b h l =
    floor_zero
    (leb 2147483648 b)
    (smallest (exponent_of b) (fraction_of b))
    (2 ^ 149)
    (few_smallest (exponent_of b) (fraction_of b) h (mod-lt b (lit< tt)))
    (λ t.
    let g : 2147483648 ≤ b = leb→le 2147483648 b t in
    let e : b ≡ 2147483648 = omega (arith, g, l) in
    ap (λ (k : ℕ). smallest (exponent_of k) (fraction_of k)) e)

-- Below 0, and above -1.
pub bits_below_zero : (b : ℕ) → exponent_of b < 127 → 2147483648 < b → b < 4294967296 → floor_of_bits b ≡ negsuc 0
unfolding floor_of_bits
bits_below_zero b h l u =
    floor_minus_one
    (leb 2147483648 b)
    (smallest (exponent_of b) (fraction_of b))
    (2 ^ 149)
    (few_smallest (exponent_of b) (fraction_of b) h (mod-lt b (lit< tt)))
    (le→leb 2147483648 b (omega (arith, l)))
    (λ e.
    let z = none_smallest (exponent_of b) (fraction_of b) e in
    let x : exponent_of b ≡ 0 = z.0 in
    let t : fraction_of b ≡ 0 = z.1 in
    omega (arith, x, t, l, u))

-- ---- and from 1 on in size
shifted : (s : Bool) (x t : ℕ) → 127 ≤ x → x ≤ 142 → floor_of (signed s (smallest x t)) (2 ^ 149) ≡ floor_of (signed s (8388608 + t)) (2 ^ (150 - x))
shifted s zero t h l = absurd (omega (arith, h))
shifted s (suc x) t h l =
    let e : x + (150 - suc x) ≡ 149 = omega (arith, l) in
    same_size
    s
    ((8388608 + t) * 2 ^ x)
    (2 ^ 149)
    (8388608 + t)
    (2 ^ (150 - suc x))
    (pow_pos 149)
    (pow_pos (150 - suc x))
    (mul_assoc (8388608 + t) (2 ^ x) (2 ^ (150 - suc x))
    ∙ ap (λ (k : ℕ). (8388608 + t) * k) (sym (pow-add 2 x (150 - suc x)) ∙ ap (λ (k : ℕ). 2 ^ k) e))

pub bits_above : (b : ℕ) → 127 ≤ exponent_of b → exponent_of b ≤ 142 → b < 2147483648
    → floor_of_bits b ≡ pos ((8388608 + fraction_of b) / 2 ^ (150 - exponent_of b))
unfolding floor_of_bits
bits_above b h l u =
    shifted (leb 2147483648 b) (exponent_of b) (fraction_of b) h l
    ∙ ap (λ (s : Bool). floor_of (signed s (8388608 + fraction_of b)) (2 ^ (150 - exponent_of b))) (lt-leb 2147483648 b u)

below : (a n c : ℕ) → n ≡ suc a → floor_of (signed true n) c ≡ negsuc (a / c)
below a n c e = ap (λ (k : ℕ). floor_of (signed true k) c) e

pub bits_below : (b : ℕ) → 127 ≤ exponent_of b → exponent_of b ≤ 142 → 2147483648 ≤ b
    → floor_of_bits b ≡ negsuc ((8388608 + fraction_of b - 1) / 2 ^ (150 - exponent_of b))
unfolding floor_of_bits
bits_below b h l u =
    shifted (leb 2147483648 b) (exponent_of b) (fraction_of b) h l
    ∙ ap (λ (s : Bool). floor_of (signed s (8388608 + fraction_of b)) (2 ^ (150 - exponent_of b))) (le-leb 2147483648 b u)
    ∙ below (8388608 + fraction_of b - 1) (8388608 + fraction_of b) (2 ^ (150 - exponent_of b)) (omega arith)
