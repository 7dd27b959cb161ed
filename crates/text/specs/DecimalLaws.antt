-- What the digits of a number are like, and the number that digits say: writing and reading back are each other's inverse.
-- A law of `decimal` goes by the digits: it is shown for the numbers below ten, and carried from n / 10 to n.
use Rattle.std.specs.Prelude.{◌≡◌, refl, List, [], ◌∷◌, ◌++◌, ℕ, zero, suc, ◌+◌, ◌-◌, ◌*◌, ◌/◌, ◌%◌, ◌^◌, ◌≤◌, ◌<◌, length, get_or}
use Rattle.std.proofs.Common.{sym, ap, ◌∙◌, append_assoc, append-nil, pow-suc, mul-le-mul_right, arith, length-append}
use Rattle.std.proofs.Math.Decide.{dec_lt}
use Rattle.std.proofs.Math.ListN.{get_or-append}
use Rattle.text.specs.Decimal.{digits_within, decimal}

-- ---- how `decimal` goes
digits_none : (f : ℕ) → digits_within f 0 ≡ []
unfolding digits_within
digits_none zero = refl
digits_none (suc f) = refl

digits_fuel : (f g n : ℕ) → n ≤ f → n ≤ g → digits_within f n ≡ digits_within g n
unfolding digits_within
digits_fuel zero zero n h k = refl
digits_fuel zero (suc g) zero h k = refl
digits_fuel zero (suc g) (suc n) h k = absurd (omega arith)
digits_fuel (suc f) zero zero h k = refl
digits_fuel (suc f) zero (suc n) h k = absurd (omega arith)
digits_fuel (suc f) (suc g) zero h k = refl
digits_fuel (suc f) (suc g) (suc n) h k = rw (digits_fuel f g (suc n / 10) (omega arith) (omega arith))

decimal_digits : (n : ℕ) → 0 < n → decimal n ≡ digits_within n n
unfolding decimal
decimal_digits zero h = absurd (omega arith)
decimal_digits (suc n) h = refl

pub decimal_small : (n : ℕ) → n < 10 → decimal n ≡ (48 + n) ∷ []
unfolding decimal digits_within
decimal_small zero h = refl
decimal_small (suc n) h =
    let q : suc n / 10 ≡ 0 = omega arith in
    let r : suc n % 10 ≡ suc n = omega arith in
    rw (q, r, digits_none n)

pub decimal_step : (n : ℕ) → 10 ≤ n → decimal n ≡ decimal (n / 10) ++ ((48 + n % 10) ∷ [])
unfolding decimal digits_within
decimal_step zero h = absurd (omega arith)
decimal_step (suc n) h =
    rw (decimal_digits (suc n / 10) (omega arith), digits_fuel n (suc n / 10) (suc n / 10) (omega arith) (omega arith))

-- What holds below ten and goes from n / 10 to n holds of every number.
decimal_within : (P : ℕ → Type 0) → ((n : ℕ) → n < 10 → P n) → ((n : ℕ) → 10 ≤ n → P (n / 10) → P n)
    → (f n : ℕ) → n ≤ f → P n
decimal_within P small step zero n h = small n (omega arith)
decimal_within P small step (suc f) n h = go (dec_lt n 10) (λ l. decimal_within P small step f (n / 10) (omega arith))
  where
    go : Dec (n < 10) → (10 ≤ n → P (n / 10)) → P n
    go (yes l) rest = small n l
    go (no l) rest = step n (omega arith) (rest (omega arith))

pub by_digits : (P : ℕ → Type 0) → ((n : ℕ) → n < 10 → P n) → ((n : ℕ) → 10 ≤ n → P (n / 10) → P n) → (n : ℕ) → P n
by_digits P small step n = decimal_within P small step n n (omega arith)

-- ---- digits
-- The bytes are digits.
pub data Digits : List ℕ → Type 0 where
  none : Digits []
  more : {b : ℕ} {bs : List ℕ} → 48 ≤ b → b ≤ 57 → Digits bs → Digits (b ∷ bs)

pub digits_append : {xs ys : List ℕ} → Digits xs → Digits ys → Digits (xs ++ ys)
digits_append none d = d
digits_append (more l g c) d = more l g (digits_append c d)

-- Digits, place by place.
pub digits_of : (xs : List ℕ) → ((i : ℕ) → i < length xs → (48 ≤ get_or xs i 0) × (get_or xs i 0 ≤ 57)) → Digits xs
digits_of [] e = none
digits_of (x ∷ xs) e = more (e 0 (omega arith)).0 (e 0 (omega arith)).1 (digits_of xs (λ i l. e (suc i) (omega arith)))

-- A byte is no digit.
abbrev pub NoDigit : ℕ → Type 0
NoDigit b = 48 ≤ b → b ≤ 57 → ⊥

pub low_stop : {b : ℕ} → b < 48 → NoDigit b
low_stop h l g = omega arith

-- Digits with a byte behind them that is none.
pub digits_stop : {xs ys : List ℕ} → Digits xs → Digits ys → {b c : ℕ} {r s : List ℕ} → NoDigit b → NoDigit c
    → xs ++ (b ∷ r) ≡ ys ++ (c ∷ s) → (xs ≡ ys) × (b ∷ r ≡ c ∷ s)
digits_stop none none hb hc e = (refl, e)
digits_stop none (more {b = y} l g d) {b} hb hc e = let q : b ≡ y = cc in absurd (hb (omega arith) (omega arith))
digits_stop (more {b = x} l g d) none {c = c} hb hc e = let q : x ≡ c = cc in absurd (hc (omega arith) (omega arith))
digits_stop (more {b = x} {bs} l g d) (more {b = y} {bs = cs} l' g' d') {b} {c} {r} {s} hb hc e =
    let q : x ≡ y = cc in
    let t : bs ++ (b ∷ r) ≡ cs ++ (c ∷ s) = cc in
    go q (digits_stop d d' hb hc t)
  where
    go : x ≡ y → (bs ≡ cs) × (b ∷ r ≡ c ∷ s) → (x ∷ bs ≡ y ∷ cs) × (b ∷ r ≡ c ∷ s)
    go q (u, v) = (cc, v)

-- Among digits there is no other byte.
pub digits_only : {xs : List ℕ} → Digits xs → (ys : List ℕ) {c : ℕ} (s : List ℕ) → NoDigit c → xs ≡ ys ++ (c ∷ s) → ⊥
digits_only none [] s hc e = let z : ◌≡◌ {A = ℕ} 0 1 = cc in omega arith
digits_only none (y ∷ ys) s hc e = let z : ◌≡◌ {A = ℕ} 0 1 = cc in omega arith
digits_only (more {b = x} l g d) [] {c} s hc e = let q : x ≡ c = cc in hc (omega arith) (omega arith)
digits_only (more {bs} l g d) (y ∷ ys) {c} s hc e = let t : bs ≡ ys ++ (c ∷ s) = cc in digits_only d ys s hc t

pub decimal_all_digits : (n : ℕ) → Digits (decimal n)
decimal_all_digits = by_digits
    (λ n. Digits (decimal n))
    (λ n l. rw (decimal_small n l) (more {b = 48 + n} (omega arith) (omega arith) none))
    (λ n l d. rw (decimal_step n l) (digits_append d (more {b = 48 + n % 10} (omega arith) (omega arith) none)))

pub decimal_some : (n : ℕ) → 1 ≤ length (decimal n)
decimal_some = by_digits
    (λ n. 1 ≤ length (decimal n))
    (λ n l. rw (decimal_small n l) (omega arith))
    (λ n l d. rw (decimal_step n l, length-append) (omega arith))

pub decimal_longer : (n : ℕ) → 10 ≤ n → length (decimal n) ≡ length (decimal (n / 10)) + 1
decimal_longer n l = rw (decimal_step n l) (length-append (decimal (n / 10)) ((48 + n % 10) ∷ []))

-- No zero in front, but for 0 itself.
pub decimal_front : (n : ℕ) → 0 < n → 48 < get_or (decimal n) 0 0
decimal_front = by_digits
    (λ (n : ℕ). (0 < n → 48 < get_or (decimal n) 0 0))
    (λ n l p. rw (decimal_small n l) (omega arith))
    (λ n l d p. rw (decimal_step n l, get_or-append (decimal (n / 10)) ((48 + n % 10) ∷ []) 0 0 (decimal_some (n / 10))) (d (omega arith)))

-- A number below 10 to the d has at most d digits.
pub decimal_length : (n d : ℕ) → n < 10 ^ suc d → length (decimal n) ≤ suc d
decimal_length = by_digits
    (λ (n : ℕ). ((d : ℕ) → n < 10 ^ suc d → length (decimal n) ≤ suc d))
    (λ n l d h. rw (decimal_small n l) (omega arith))
    longer
  where
    longer : (n : ℕ) → 10 ≤ n → ((d : ℕ) → n / 10 < 10 ^ suc d → length (decimal (n / 10)) ≤ suc d)
        → (d : ℕ) → n < 10 ^ suc d → length (decimal n) ≤ suc d
    longer n l ih zero h = absurd (omega arith)
    longer n l ih (suc d) h =
        let p = pow-suc 10 (suc d) in
        rw (decimal_step n l, length-append) (omega (arith, ih d (omega arith)))

-- ---- the number that digits say
-- Digits read from the left, each ten times less than what was read before.
unfoldable pub value_from : ℕ → List ℕ → ℕ
value_from v [] = v
value_from v (b ∷ bs) = value_from (v * 10 + (b - 48)) bs

value_append : (v : ℕ) (xs ys : List ℕ) → value_from v (xs ++ ys) ≡ value_from (value_from v xs) ys
unfolding value_from
value_append v [] ys = refl
value_append v (x ∷ xs) ys = value_append (v * 10 + (x - 48)) xs ys

pub value_decimal : (n : ℕ) → value_from 0 (decimal n) ≡ n
unfolding value_from
value_decimal = by_digits
    (λ n. value_from 0 (decimal n) ≡ n)
    (λ n l. rw (decimal_small n l) (omega arith))
    (λ n l e. rw (decimal_step n l, value_append 0 (decimal (n / 10)) ((48 + n % 10) ∷ []), e) (omega arith))

pub decimal_one_to_one : (m n : ℕ) → decimal m ≡ decimal n → m ≡ n
decimal_one_to_one m n e = sym (value_decimal m) ∙ ap (value_from 0) e ∙ value_decimal n

pub value_grows : (v : ℕ) (ds : List ℕ) → v ≤ value_from v ds
unfolding value_from
value_grows v [] = omega arith
value_grows v (b ∷ bs) = omega (arith, value_grows (v * 10 + (b - 48)) bs)

pub value_bound : (v : ℕ) {ds : List ℕ} → Digits ds → value_from v ds < suc v * 10 ^ length ds
unfolding value_from
value_bound v none = omega arith
value_bound v (more {b} {bs} l g d) =
    omega (
      arith,
      value_bound (v * 10 + (b - 48)) d,
      ap (λ (t : ℕ). suc v * t) (pow-suc 10 (length bs)),
      mul-le-mul_right (10 ^ length bs) (below_next),
    )
  where
    below_next : suc (v * 10 + (b - 48)) ≤ suc v * 10
    below_next = omega arith

-- Digits behind a number that is not 0 are digits of the longer number.
decimal_behind : (v : ℕ) {ds : List ℕ} → 0 < v → Digits ds → decimal (value_from v ds) ≡ decimal v ++ ds
unfolding value_from
decimal_behind v p none = sym (append-nil (decimal v))
decimal_behind v p (more {b} {bs} l g d) =
    let w : ℕ = v * 10 + (b - 48) in
    let q : w / 10 ≡ v = omega arith in
    let r : 48 + w % 10 ≡ b = omega arith in
    decimal_behind w (omega arith) d
    ∙ rw (decimal_step w (omega arith), q, r) (append_assoc (decimal v) (b ∷ []) bs)

-- Digits without a leading zero are the digits of the number that they say.
pub decimal_value : (b : ℕ) {bs : List ℕ} → Digits (b ∷ bs) → 48 < b → decimal (value_from 0 (b ∷ bs)) ≡ b ∷ bs
unfolding value_from
decimal_value b (more {bs} l g d) p =
    let z : 0 * 10 + (b - 48) ≡ b - 48 = omega arith in
    let e : 48 + (b - 48) ≡ b = omega arith in
    let s : decimal (b - 48) ≡ b ∷ [] = decimal_small (b - 48) (omega arith) ∙ rw e in
    rw z (decimal_behind (b - 48) (omega arith) d ∙ rw s)

-- The digits of a number as a text may have them: some, and no zero in front of others.
pub decimal_read : {ds : List ℕ} → Digits ds → 1 ≤ length ds → (get_or ds 0 0 ≡ 48 → length ds ≡ 1) → decimal (value_from 0 ds) ≡ ds
unfolding value_from
decimal_read none some front = absurd (omega arith)
decimal_read (more {b} {bs} l g d) some front = go (dec_lt 48 b) bs d front
  where
    go : Dec (48 < b) → (cs : List ℕ) → Digits cs → (b ≡ 48 → length (b ∷ cs) ≡ 1) → decimal (value_from 0 (b ∷ cs)) ≡ b ∷ cs
    go (yes p) cs ds f = decimal_value b (more l g ds) p
    go (no p) [] ds f =
        let e : b ≡ 48 = omega arith in
        rw e (decimal_small 0 (omega arith))
    go (no p) (x ∷ cs) ds f = absurd (omega (arith, f (omega arith)))
