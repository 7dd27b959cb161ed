-- 256 times an `f32` of at most 128 in size loses nothing: it has the same digits, and neither its least nor its greatest power of two is out of reach.
use Rattle.std.specs.Prelude.{◌≡◌, refl, Bool, true, false, ◌&&◌, ℕ, zero, suc, ◌+◌, ◌-◌, ◌*◌, ◌%◌, ◌^◌, ◌≤◌, ◌<◌, T, eqb, ltb, leb, ℤ, pos, negsuc, Float}
use Rattle.std.proofs.Common.{sym, ap, ◌∙◌, subst, suc-le-suc, lt_of_le_of_lt, lt_of_lt_of_le, le_trans, mul-le-mul_right, mul-le-mul_left, mul_assoc, mul-lt-mul_of_pos_right, mul-one, zero-mul, lt_of_not-le, not-le_of_lt, arith, ltb→lt, leb→le, lit<, lit≤, pow-add, pow_pos, pow_mono}
use Rattle.std.proofs.Math.Pow.{pow-lt}
use Rattle.std.specs.Float.{fin, binary32}
use Rattle.std.specs.Float.Ieee.{up, down, unlike, mul, fits, of_bits, round}
use Rattle.std.specs.Float.Ieee.Exact.{HasValue, round_exact}
use Rattle.std.specs.Float.Ieee.Fits.{and_l, and_r}

-- 256 times a value, as the machine has it.
abbrev pub scaled : Float → Float
scaled v = mul binary32 v (of_bits binary32 1132462080)

scale : of_bits binary32 1132462080 ≡ fin false 1 (pos 8)
unfolding of_bits
scale = refl

same_sign : (s : Bool) → unlike s false ≡ s
same_sign true = refl
same_sign false = refl

-- An `f32` has 24 digits.
digits_few : (s : Bool) (m : ℕ) (e : ℤ) → T (fits binary32 (fin s m e)) → m < 2 ^ 24
unfolding fits
digits_few s zero e t = lit< tt
digits_few s (suc m) e t =
    let a : Bool = eqb (suc m % 2) 1 in
    let b : Bool = ltb (suc m) (2 ^ 24) in
    let c : Bool = leb (down e) (2 ^ 149) in
    let d : Bool = ltb (suc m * up e) (2 ^ 128 * down e) in
    ltb→lt (suc m) (2 ^ 24) (and_r a b (and_l (a && b) c (and_l (a && b && c) d t)))

-- Its least power of two is -149.
power_least : (s : Bool) (m k : ℕ) → T (fits binary32 (fin s (suc m) (negsuc k))) → suc k ≤ 149
unfolding fits
power_least s m k t =
    let e : ℤ = negsuc k in
    let a : Bool = eqb (suc m % 2) 1 in
    let b : Bool = ltb (suc m) (2 ^ 24) in
    let c : Bool = leb (down e) (2 ^ 149) in
    let d : Bool = ltb (suc m * up e) (2 ^ 128 * down e) in
    let h : 2 ^ suc k ≤ 2 ^ 149 = leb→le (down e) (2 ^ 149) (and_r (a && b) c (and_l (a && b && c) d t)) in
    lt_of_not-le (λ (g : 149 ≤ k). not-le_of_lt (pow-lt {i = 149} {j = suc k} (suc-le-suc g)) h)

-- A power taken apart.
wide : (m k : ℕ) → m * 2 ^ (k + 157) ≡ m * 2 ^ k * 2 ^ 157
wide m k = ap (λ (x : ℕ). m * x) (pow-add 2 k 157) ∙ sym (mul_assoc m (2 ^ k) (2 ^ 157))

narrow : (m k : ℕ) → suc k ≤ 149 → m * 1 * 256 * 2 ^ 149 ≡ m * 2 ^ (157 - suc k) * 2 ^ suc k
narrow m k h =
    let g : 157 ≡ 157 - suc k + suc k = omega (arith, h) in
    ap (λ (x : ℕ). x * 256 * 2 ^ 149) (mul-one m)
    ∙ mul_assoc m 256 (2 ^ 149)
    ∙ ap (λ (x : ℕ). m * 2 ^ x) g
    ∙ ap (λ (x : ℕ). m * x) (pow-add 2 (157 - suc k) (suc k))
    ∙ sym (mul_assoc m (2 ^ (157 - suc k)) (2 ^ suc k))

by_256 : (s : Bool) (m : ℕ) (e : ℤ) → T (fits binary32 (fin s m e)) → m * up e ≤ 128 * down e
    → HasValue (mul binary32 (fin s m e) (fin false 1 (pos 8))) s (m * up e * 256) (down e)
unfolding mul
by_256 s m (pos k) t h =
    subst
    (λ (z : Bool). HasValue (round binary32 z (m * 2 ^ k * 256) 1) s (m * 2 ^ k * 256) 1)
    (sym (same_sign s))
    (round_exact
    binary32
    s
    (m * 2 ^ k * 256)
    1
    m
    (k + 157)
    (lit< tt)
    (digits_few s m (pos k) t)
    (subst (λ (x : ℕ). x < 2 ^ 277) (sym (wide m k)) (lt_of_le_of_lt (mul-le-mul_right (2 ^ 157) h) (lit< tt)))
    (mul_assoc (m * 2 ^ k) 256 (2 ^ 149) ∙ sym (wide m k) ∙ sym (mul-one (m * 2 ^ (k + 157)))))
by_256 s zero (negsuc k) t h =
    subst
    (λ (z : Bool). HasValue (round binary32 z 0 (2 ^ suc k * 1)) s 0 (2 ^ suc k))
    (sym (same_sign s))
    (subst
    (λ (d : ℕ). HasValue (round binary32 s 0 d) s 0 (2 ^ suc k))
    (sym (mul-one (2 ^ suc k)))
    (round_exact binary32 s 0 (2 ^ suc k) 0 0 (pow_pos (suc k)) (lit< tt) (lit< tt) (sym (zero-mul (2 ^ suc k)))))
by_256 s (suc m) (negsuc k) t h =
    let q = suc m in
    let j = 157 - suc k in
    subst
    (λ (z : Bool). HasValue (round binary32 z (q * 1 * 256) (2 ^ suc k * 1)) s (q * 1 * 256) (2 ^ suc k))
    (sym (same_sign s))
    (subst
    (λ (d : ℕ). HasValue (round binary32 s (q * 1 * 256) d) s (q * 1 * 256) (2 ^ suc k))
    (sym (mul-one (2 ^ suc k)))
    (round_exact
    binary32
    s
    (q * 1 * 256)
    (2 ^ suc k)
    q
    j
    (pow_pos (suc k))
    (digits_few s q (negsuc k) t)
    (lt_of_lt_of_le
    (mul-lt-mul_of_pos_right (digits_few s q (negsuc k) t) (pow_pos j))
    (le_trans (mul-le-mul_left (2 ^ 24) (pow_mono {j = 157} (omega arith))) (lit≤ tt)))
    (narrow q k (power_least s m k t))))

-- "The multiplication by 256 loses nothing there": the product has the sign, and is 256 times the value in size.
pub product_is_exact : (s : Bool) (m : ℕ) (e : ℤ) → T (fits binary32 (fin s m e)) → m * up e ≤ 128 * down e
    → HasValue (scaled (fin s m e)) s (m * up e * 256) (down e)
product_is_exact s m e t h =
    subst (λ (k : Float). HasValue (mul binary32 (fin s m e) k) s (m * up e * 256) (down e)) (sym scale) (by_256 s m e t h)
