-- The items of a list that pass a test: laws of `keep`, by the first item.
use Rattle.std.specs.Prelude.{◌≡◌, refl, Bool, true, false, ◌&&◌, List, [], ◌∷◌, ◌++◌, ℕ, suc, ◌+◌, ◌<◌, length, get_or}
use Rattle.std.proofs.Common.{sym, ap, ◌∙◌, append_assoc, arith}
use Rattle.terms.specs.Tests.{bit, count, every, keep, pick}
use Rattle.theory.specs.Flags.{true_and, and_true}
use Rattle.theory.specs.Counting.{every_at}

pub pick_append : {A : Type 0} (t : Bool) (x : A) (xs ys : List A) → pick t x (xs ++ ys) ≡ pick t x xs ++ ys
pick_append true x xs ys = refl
pick_append false x xs ys = refl

pub keep_append : {A : Type 0} (test : A → Bool) (xs ys : List A) → keep test (xs ++ ys) ≡ keep test xs ++ keep test ys
unfolding keep
keep_append test [] ys = refl
keep_append test (x ∷ xs) ys = ap (pick (test x) x) (keep_append test xs ys) ∙ pick_append (test x) x (keep test xs) (keep test ys)

-- What is kept around one item: from before it, itself if it passed, from after it.
pub keep_around : {A : Type 0} (test : A → Bool) (l : List A) (x : A) (r : List A)
    → keep test (l ++ x ∷ r) ≡ (keep test l ++ pick (test x) x []) ++ keep test r
unfolding keep
keep_around test l x r =
    keep_append test l (x ∷ r)
    ∙ ap (λ (ys : List _). keep test l ++ ys) (pick_append (test x) x [] (keep test r))
    ∙ sym (append_assoc (keep test l) (pick (test x) x []) (keep test r))

-- Where every item passes, all are kept; where none does, nothing is.
pub keep_all : {A : Type 0} (test : A → Bool) (z : A) (xs : List A) → ((i : ℕ) → i < length xs → test (get_or xs i z) ≡ true) → keep test xs ≡ xs
unfolding keep
keep_all test z [] h = refl
keep_all test z (x ∷ xs) h = rw (h 0 (omega arith)) (ap (λ (ys : List _). x ∷ ys) (keep_all test z xs (λ i l. h (suc i) (omega arith))))

pub keep_none : {A : Type 0} (test : A → Bool) (z : A) (xs : List A) → ((i : ℕ) → i < length xs → test (get_or xs i z) ≡ false) → keep test xs ≡ []
unfolding keep
keep_none test z [] h = refl
keep_none test z (x ∷ xs) h = rw (h 0 (omega arith)) (keep_none test z xs (λ i l. h (suc i) (omega arith)))

-- Tests that agree on the items keep the same.
pub keep_same : {A : Type 0} (z : A) (p q : A → Bool) (xs : List A) → ((i : ℕ) → i < length xs → p (get_or xs i z) ≡ q (get_or xs i z)) → keep p xs ≡ keep q xs
unfolding keep
keep_same z p q [] h = refl
keep_same z p q (x ∷ xs) h = rw (h 0 (omega arith)) (ap (pick (q x) x) (keep_same z p q xs (λ i l. h (suc i) (omega arith))))

-- To keep twice is to keep what passes both tests.
pub keep_keep : {A : Type 0} (p q : A → Bool) (xs : List A) → keep p (keep q xs) ≡ keep (λ v. q v && p v) xs
unfolding keep
keep_keep p q [] = refl
keep_keep p q (x ∷ xs) = go (q x) (keep_keep p q xs)
  where
    go : (t : Bool) → keep p (keep q xs) ≡ keep (λ v. q v && p v) xs → keep p (pick t x (keep q xs)) ≡ pick (t && p x) x (keep (λ v. q v && p v) xs)
    go true e = ap (pick (p x) x) e
    go false e = e

pub length_keep : {A : Type 0} (test : A → Bool) (xs : List A) → length (keep test xs) ≡ count test xs
unfolding keep count
length_keep test [] = refl
length_keep test (x ∷ xs) = go (test x) (length_keep test xs)
  where
    go : (t : Bool) → length (keep test xs) ≡ count test xs → length (pick t x (keep test xs)) ≡ bit t + count test xs
    go true e = omega arith
    go false e = omega arith

-- What is kept passes, and passes what all passed before.
pub every_keep : {A : Type 0} (test : A → Bool) (xs : List A) → every test (keep test xs) ≡ true
unfolding keep every
every_keep test [] = refl
every_keep test (x ∷ xs) = go (test x) refl (every_keep test xs)
  where
    go : (t : Bool) → test x ≡ t → every test (keep test xs) ≡ true → every test (pick t x (keep test xs)) ≡ true
    go true e h = true_and e h
    go false e h = h

pub every_kept : {A : Type 0} (test kept : A → Bool) (xs : List A) → every test xs ≡ true → every test (keep kept xs) ≡ true
unfolding keep every
every_kept test kept [] e = refl
every_kept test kept (x ∷ xs) e =
    let p = and_true (test x) e in
    go (kept x) p.0 (every_kept test kept xs p.1)
  where
    go : (t : Bool) → test x ≡ true → every test (keep kept xs) ≡ true → every test (pick t x (keep kept xs)) ≡ true
    go true e h = true_and e h
    go false e h = h

pub keep_every : {A : Type 0} (test : A → Bool) (z : A) (xs : List A) → every test xs ≡ true → keep test xs ≡ xs
keep_every test z xs e = keep_all test z xs (every_at test z xs e)
