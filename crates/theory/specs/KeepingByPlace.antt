-- What is kept of a list, place by place: each kept item passed and stood in the list, each that passed is kept, a rising list stays rising.
-- All by going through the list once, with two cases at each item.
use Rattle.std.specs.Prelude.{◌≡◌, refl, Bool, true, false, List, [], ◌∷◌, ◌++◌, ℕ, zero, suc, ◌+◌, ◌<◌, length, get_or, take, ltb}
use Rattle.std.proofs.Common.{ap, ⊎_elim, not-suc-le-zero, le_of_suc-le-suc, eq-or-lt_of_le, add-one, arith, take-suc, ltb-true, ltb-false}
use Rattle.terms.specs.Tests.{keep, pick}
use Rattle.theory.specs.Keeping.{keep_append}

-- One more item at the end of a first part.
pub keep_next : {A : Type 0} (test : A → Bool) (z : A) (xs : List A) (t : ℕ) → t < length xs
    → keep test (take (t + 1) xs) ≡ keep test (take t xs) ++ pick (test (get_or xs t z)) (get_or xs t z) []
unfolding keep
keep_next test z xs t l = rw (add-one, take-suc xs t z l) (keep_append test (take t xs) (get_or xs t z ∷ []))

-- What holds of every item that passes holds of every kept item.
pub kept_each : {A : Type 0} (P : A → Type 0) (test : A → Bool) (z : A) (xs : List A)
    → ((i : ℕ) → i < length xs → test (get_or xs i z) ≡ true → P (get_or xs i z))
    → (i : ℕ) → i < length (keep test xs) → P (get_or (keep test xs) i z)
unfolding keep
kept_each P test z [] h i l = absurd (not-suc-le-zero l)
kept_each P test z (x ∷ xs) h i l = go (test x) refl i l (kept_each P test z xs (λ j m. h (suc j) (omega arith)))
  where
    go : (t : Bool) → test x ≡ t → (i : ℕ) → i < length (pick t x (keep test xs))
        → ((j : ℕ) → j < length (keep test xs) → P (get_or (keep test xs) j z)) → P (get_or (pick t x (keep test xs)) i z)
    go true e zero m rest = h 0 (omega arith) e
    go true e (suc j) m rest = rest j (le_of_suc-le-suc m)
    go false e j m rest = rest j m

-- An item that passes has a place among the kept.
pub kept_place : {A : Type 0} (test : A → Bool) (z : A) (xs : List A) (i : ℕ) → i < length xs → test (get_or xs i z) ≡ true
    → (j : ℕ) × (j < length (keep test xs)) × (get_or (keep test xs) j z ≡ get_or xs i z)
unfolding keep
kept_place test z [] i l e = absurd (not-suc-le-zero l)
kept_place test z (x ∷ xs) zero l e = rw e (0, omega arith, refl)
kept_place {A} test z (x ∷ xs) (suc i) l e = go (test x) (kept_place test z xs i (le_of_suc-le-suc l) e)
  where
    go : (t : Bool) → (j : ℕ) × (j < length (keep test xs)) × (get_or (keep test xs) j z ≡ get_or xs i z)
        → (j : ℕ) × (j < length (pick t x (keep test xs))) × (get_or (pick t x (keep test xs)) j z ≡ get_or xs i z)
    go true w = (suc w.0, omega arith, w.2)
    go false w = w

-- Each number is greater than those before it.
pub record Ascending (xs : List ℕ) : Type 0 where
  pub ascend : (i j : ℕ) → i < j → j < length xs → get_or xs i 0 < get_or xs j 0

-- So a lesser number stands before a greater one.
pub ascend_back : {xs : List ℕ} → Ascending xs → (i j : ℕ) → i < length xs → get_or xs i 0 < get_or xs j 0 → i < j
ascend_back {xs} w i j l m = go (ltb i j) refl
  where
    go : (t : Bool) → ltb i j ≡ t → i < j
    go true e = ltb-true i j e
    go false e = ⊎_elim (λ same. absurd (omega (arith, ap (λ (k : ℕ). get_or xs k 0) same))) (λ n. absurd (omega (arith, w.ascend j i n l))) (eq-or-lt_of_le (ltb-false i j e))

pub keep_ascending : (test : ℕ → Bool) (xs : List ℕ) → Ascending xs → Ascending (keep test xs)
unfolding keep
keep_ascending test [] w = record { ascend = λ i j m l. absurd (not-suc-le-zero l) }
keep_ascending test (x ∷ xs) w = go (test x) (keep_ascending test xs (record { ascend = λ i j m l. w.ascend (suc i) (suc j) (omega arith) (omega arith) }))
  where
    first : (j : ℕ) → j < length (keep test xs) → x < get_or (keep test xs) j 0
    first = kept_each (λ y. x < y) test 0 xs (λ j l e. w.ascend 0 (suc j) (omega arith) (omega arith))

    step : Ascending (keep test xs) → (i j : ℕ) → i < j → j < length (x ∷ keep test xs) → get_or (x ∷ keep test xs) i 0 < get_or (x ∷ keep test xs) j 0
    step v i zero m l = absurd (not-suc-le-zero m)
    step v zero (suc j) m l = first j (le_of_suc-le-suc l)
    step v (suc i) (suc j) m l = v.ascend i j (le_of_suc-le-suc m) (le_of_suc-le-suc l)

    go : (t : Bool) → Ascending (keep test xs) → Ascending (pick t x (keep test xs))
    go true v = record { ascend = step v }
    go false v = v
