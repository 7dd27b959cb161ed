-- Counting with a test, and lists that hold the same items in another order: for every test they count alike.
use Rattle.std.specs.Prelude.{◌≡◌, refl, Bool, true, false, ◌&&◌, not, List, [], ◌∷◌, ◌++◌, map, ℕ, zero, suc, ◌+◌, ◌≤◌, ◌<◌, length, get_or, take, drop, set, eqb}
use Rattle.std.proofs.Common.{sym, ap, ◌∙◌, not-suc-le-zero, le_of_suc-le-suc, add-one, arith, length-set, length-take, length-drop, take-append-drop, take-suc, get_or-take, get_or-drop, eq-eqb}
use Rattle.whole.specs.IndexedTotal.{total_to}
use Rattle.whole.proofs.IndexedTotal.{total_front}
use Rattle.terms.specs.Tests.{bit, count, every, keep, pick}
use Rattle.theory.specs.Flags.{same_test, and_true, true_and, and_yes, and_assoc}

-- Every item passes: item by item.
pub every_at : {A : Type 0} (test : A → Bool) (z : A) (xs : List A) → every test xs ≡ true → (i : ℕ) → i < length xs → test (get_or xs i z) ≡ true
unfolding every
every_at test z [] e i l = absurd (not-suc-le-zero l)
every_at test z (x ∷ xs) e zero l = (and_true (test x) e).0
every_at test z (x ∷ xs) e (suc i) l = every_at test z xs (and_true (test x) e).1 i (le_of_suc-le-suc l)

-- At any place, where the test is passed by what stands for a missing item.
pub every_or_default : {A : Type 0} (test : A → Bool) (z : A) → test z ≡ true → (xs : List A) → every test xs ≡ true → (i : ℕ) → test (get_or xs i z) ≡ true
unfolding every
every_or_default test z d [] e i = d
every_or_default test z d (x ∷ xs) e zero = (and_true (test x) e).0
every_or_default test z d (x ∷ xs) e (suc i) = every_or_default test z d xs (and_true (test x) e).1 i

pub at_every : {A : Type 0} (test : A → Bool) (z : A) (xs : List A) → ((i : ℕ) → i < length xs → test (get_or xs i z) ≡ true) → every test xs ≡ true
unfolding every
at_every test z [] e = refl
at_every test z (x ∷ xs) e = true_and (e 0 (omega arith)) (at_every test z xs (λ i l. e (suc i) (omega arith)))

-- Tests that agree on the items say the same of every one.
pub every_same : {A : Type 0} (z : A) (p q : A → Bool) (xs : List A) → ((i : ℕ) → i < length xs → p (get_or xs i z) ≡ q (get_or xs i z)) → every p xs ≡ every q xs
every_same z p q xs same = same_test
    (λ e. at_every q z xs (λ i l. sym (same i l) ∙ every_at p z xs e i l))
    (λ e. at_every p z xs (λ i l. same i l ∙ every_at q z xs e i l))

-- What every item passes, the items of a part pass.
pub every_part : {A : Type 0} (z : A) (test : A → Bool) (a c : ℕ) (xs : List A) → every test xs ≡ true → every test (take c (drop a xs)) ≡ true
every_part z test a c xs e = at_every test z (take c (drop a xs))
    (λ i l.
    let m : i < c = omega (arith, length-take c (drop a xs)) in
    let room : a + i < length xs = omega (arith, length-take c (drop a xs), length-drop a xs) in
    rw (get_or-take c (drop a xs) i z m, get_or-drop a xs i z) (every_at test z xs e (a + i) room))

pub bit_le : (t : Bool) → bit t ≤ 1
bit_le true = omega arith
bit_le false = omega arith

pub bit_not : (t : Bool) → bit t + bit (not t) ≡ 1
bit_not true = refl
bit_not false = refl

pub count_append : {A : Type 0} (test : A → Bool) (xs ys : List A) → count test (xs ++ ys) ≡ count test xs + count test ys
unfolding count
count_append test [] ys = omega arith
count_append test (x ∷ xs) ys = let ih = count_append test xs ys in omega arith

pub count_map : {A B : Type 0} (test : B → Bool) (f : A → B) (xs : List A) → count test (map f xs) ≡ count (λ x. test (f x)) xs
unfolding count
count_map test f [] = refl
count_map test f (x ∷ xs) = let ih = count_map test f xs in omega arith

-- What counts is the total over the places.
pub count_places : {A : Type 0} (test : A → Bool) (z : A) (xs : List A) → count test xs ≡ total_to (length xs) (λ i. bit (test (get_or xs i z)))
unfolding count total_to
count_places test z [] = refl
count_places test z (x ∷ xs) = omega (arith, count_places test z xs, total_front (length xs) (λ i. bit (test (get_or (x ∷ xs) i z))))

-- Every item counts with the test that always says yes, none with the one that always says no.
pub count_yes : {A : Type 0} (xs : List A) → count (λ v. true) xs ≡ length xs
unfolding count
count_yes [] = refl
count_yes (x ∷ xs) = let ih = count_yes xs in omega arith

pub count_no : {A : Type 0} (xs : List A) → count (λ v. false) xs ≡ 0
unfolding count
count_no [] = refl
count_no (x ∷ xs) = let ih = count_no xs in omega arith

-- Tests that agree on the items count alike.
pub count_same : {A : Type 0} (z : A) (p q : A → Bool) (xs : List A) → ((i : ℕ) → i < length xs → p (get_or xs i z) ≡ q (get_or xs i z)) → count p xs ≡ count q xs
unfolding count
count_same z p q [] h = refl
count_same z p q (x ∷ xs) h =
    let e : bit (p x) ≡ bit (q x) = ap bit (h 0 (omega arith)) in
    omega (arith, count_same z p q xs (λ i l. h (suc i) (omega arith)))

-- Two tests of which at most one says yes, and then only where a third does, count no more than the third.
pub count_both_le : {A : Type 0} (p q r : A → Bool) (xs : List A) → ((v : A) → bit (p v) + bit (q v) ≤ bit (r v)) → count p xs + count q xs ≤ count r xs
unfolding count
count_both_le p q r [] h = omega arith
count_both_le p q r (x ∷ xs) h = omega (arith, h x, count_both_le p q r xs h)

pub count_not : {A : Type 0} (test : A → Bool) (xs : List A) → count test xs + count (λ v. not (test v)) xs ≡ length xs
unfolding count
count_not test [] = refl
count_not test (x ∷ xs) = omega (arith, count_not test xs, bit_not (test x))

-- Where nothing counts, no item passes.
pub count_zero : {A : Type 0} (test : A → Bool) (z : A) (xs : List A) → count test xs ≡ 0 → (i : ℕ) → i < length xs → test (get_or xs i z) ≡ false
unfolding count
count_zero test z [] e i l = absurd (not-suc-le-zero l)
count_zero test z (x ∷ xs) e zero l = go (test x) (omega arith)
  where
    go : (t : Bool) → bit t ≡ 0 → t ≡ false
    go true b = absurd (omega arith)
    go false b = refl
count_zero test z (x ∷ xs) e (suc i) l = count_zero test z xs (omega arith) i (le_of_suc-le-suc l)

-- The same items in another order.
pub record Same {A : Type 0} (xs ys : List A) : Type 0 where
  pub counts : (test : A → Bool) → count test xs ≡ count test ys

pub same_refl : {A : Type 0} {xs : List A} → Same xs xs
same_refl = record { counts = λ p. refl }

pub same_sym : {A : Type 0} {xs ys : List A} → Same xs ys → Same ys xs
same_sym s = record { counts = λ p. sym (s.counts p) }

pub same_trans : {A : Type 0} {xs ys zs : List A} → Same xs ys → Same ys zs → Same xs zs
same_trans s t = record { counts = λ p. s.counts p ∙ t.counts p }

pub same_length : {A : Type 0} {xs ys : List A} → Same xs ys → length xs ≡ length ys
same_length {xs = xs} {ys} s = omega (arith, count_yes xs, count_yes ys, s.counts (λ v. true))

pub same_append : {A : Type 0} {xs ys us vs : List A} → Same xs ys → Same us vs → Same (xs ++ us) (ys ++ vs)
same_append {xs = xs} {ys} {us} {vs} s t = record { counts = λ p. omega (arith, count_append p xs us, count_append p ys vs, s.counts p, t.counts p) }

-- A store takes the old item out and puts the new one in.
pub count_set : {A : Type 0} (test : A → Bool) (z : A) (xs : List A) (i : ℕ) (v : A) → i < length xs
    → count test (set xs i v) + bit (test (get_or xs i z)) ≡ count test xs + bit (test v)
unfolding count
count_set test z [] i v h = absurd (not-suc-le-zero h)
count_set test z (x ∷ xs) zero v h = omega arith
count_set test z (x ∷ xs) (suc i) v h = let ih = count_set test z xs i v (le_of_suc-le-suc h) in omega arith

-- What stands at i after the store of item i at t.
pub set_get_d_at : {A : Type 0} (z : A) (xs : List A) (t i : ℕ) → t < length xs → get_or (set xs t (get_or xs i z)) i z ≡ get_or xs i z
set_get_d_at z [] t i h = absurd (not-suc-le-zero h)
set_get_d_at z (x ∷ xs) zero zero h = refl
set_get_d_at z (x ∷ xs) zero (suc i) h = refl
set_get_d_at z (x ∷ xs) (suc t) zero h = refl
set_get_d_at z (x ∷ xs) (suc t) (suc i) h = set_get_d_at z xs t i (le_of_suc-le-suc h)

-- A swap of two places.
pub same_swap : {A : Type 0} (z : A) (xs : List A) (t i : ℕ) → t < length xs → i < length xs → Same (set (set xs t (get_or xs i z)) i (get_or xs t z)) xs
same_swap z xs t i ht hi = record {
  counts = λ p.
      let first = count_set p z xs t (get_or xs i z) ht in
      let second = count_set p z (set xs t (get_or xs i z)) i (get_or xs t z) (rw length-set hi) in
      let e = ap (λ v. bit (p v)) (set_get_d_at z xs t i ht) in
      omega arith;
}

pub same_take_drop : {A : Type 0} (k : ℕ) (xs : List A) → Same (take k xs ++ drop k xs) xs
same_take_drop k xs = rw take-append-drop same_refl

-- A front part that came back rearranged.
pub same_front : {A : Type 0} {ys : List A} (xs : List A) (k : ℕ) → Same ys (take k xs) → Same (ys ++ drop k xs) xs
same_front xs k s = same_trans (same_append s same_refl) (same_take_drop k xs)

-- A part from the middle that came back rearranged.
pub same_part : {A : Type 0} {ys : List A} (xs : List A) (a k : ℕ) → Same ys (take k (drop a xs)) → Same (take a xs ++ (ys ++ drop k (drop a xs))) xs
same_part xs a k s = same_trans (same_append {xs = take a xs} same_refl (same_front (drop a xs) k s)) (same_take_drop a xs)

-- Every item passes exactly where none fails.
pub every_count : {A : Type 0} (test : A → Bool) (xs : List A) → every test xs ≡ true → count (λ v. not (test v)) xs ≡ 0
unfolding every count
every_count test [] e = refl
every_count test (x ∷ xs) e =
    let p = and_true (test x) e in
    let b : bit (not (test x)) ≡ 0 = rw p.0 in
    omega (arith, every_count test xs p.1)

pub count_every : {A : Type 0} (test : A → Bool) (xs : List A) → count (λ v. not (test v)) xs ≡ 0 → every test xs ≡ true
unfolding every count
count_every test [] e = refl
count_every test (x ∷ xs) e = true_and (go (test x) (omega arith)) (count_every test xs (omega arith))
  where
    go : (t : Bool) → bit (not t) ≡ 0 → t ≡ true
    go true b = refl
    go false b = absurd (omega arith)

pub same_every : {A : Type 0} (test : A → Bool) {xs ys : List A} → Same xs ys → every test ys ≡ true → every test xs ≡ true
same_every test {xs} {ys} s e = count_every test xs (s.counts (λ v. not (test v)) ∙ every_count test ys e)

-- What is kept counts where both tests say yes.
pub count_keep : {A : Type 0} (test kept : A → Bool) (xs : List A) → count test (keep kept xs) ≡ count (λ v. kept v && test v) xs
unfolding count keep
count_keep test kept [] = refl
count_keep test kept (x ∷ xs) = go (kept x) (count_keep test kept xs)
  where
    go : (t : Bool) → count test (keep kept xs) ≡ count (λ v. kept v && test v) xs → count test (pick t x (keep kept xs)) ≡ bit (t && test x) + count (λ v. kept v && test v) xs
    go true e = omega arith
    go false e = omega arith

pub same_keep : {A : Type 0} (kept : A → Bool) {xs ys : List A} → Same xs ys → Same (keep kept xs) (keep kept ys)
same_keep kept {xs} {ys} s = record { counts = λ p. count_keep p kept xs ∙ s.counts (λ v. kept v && p v) ∙ sym (count_keep p kept ys) }

-- No number twice.
pub record Distinct (xs : List ℕ) : Type 0 where
  pub once : (v : ℕ) → count (eqb v) xs ≤ 1

pub same_distinct : {xs ys : List ℕ} → Same xs ys → Distinct ys → Distinct xs
same_distinct s d = record { once = λ v. omega (arith, s.counts (eqb v), d.once v) }

pub distinct_append : (xs ys : List ℕ) → Distinct (xs ++ ys) → Distinct xs × Distinct ys
distinct_append xs ys d = (
  record { once = λ v. omega (arith, d.once v, count_append (eqb v) xs ys) },
  record { once = λ v. omega (arith, d.once v, count_append (eqb v) xs ys) },
)

count_one : (test : ℕ → Bool) (xs : List ℕ) (i : ℕ) → i < length xs → test (get_or xs i 0) ≡ true → 1 ≤ count test xs
unfolding count
count_one test [] i h e = absurd (not-suc-le-zero h)
count_one test (x ∷ xs) zero h e = rw e (omega arith)
count_one test (x ∷ xs) (suc i) h e = let ih = count_one test xs i (le_of_suc-le-suc h) e in omega arith

count_two : (test : ℕ → Bool) (xs : List ℕ) (i j : ℕ) → i < j → j < length xs → test (get_or xs i 0) ≡ true → test (get_or xs j 0) ≡ true → 2 ≤ count test xs
unfolding count
count_two test [] i j l h e f = absurd (not-suc-le-zero h)
count_two test (x ∷ xs) i zero l h e f = absurd (not-suc-le-zero l)
count_two test (x ∷ xs) zero (suc j) l h e f = let o = count_one test xs j (le_of_suc-le-suc h) f in rw e (omega arith)
count_two test (x ∷ xs) (suc i) (suc j) l h e f = let ih = count_two test xs i j (le_of_suc-le-suc l) (le_of_suc-le-suc h) e f in omega arith

-- Two places of a list without repeats hold different numbers.
pub distinct_places : (xs : List ℕ) (i j : ℕ) → Distinct xs → i < j → j < length xs → get_or xs i 0 ≡ get_or xs j 0 → ⊥
distinct_places xs i j d l h e = omega (
  arith,
  d.once (get_or xs i 0),
  count_two (eqb (get_or xs i 0)) xs i j l h (eq-eqb (get_or xs i 0) (get_or xs i 0) refl) (eq-eqb (get_or xs i 0) (get_or xs j 0) e),
)

-- One item more.
pub count_next : {A : Type 0} (test : A → Bool) (z : A) (xs : List A) (i : ℕ) → i < length xs
    → count test (take (i + 1) xs) ≡ count test (take i xs) + bit (test (get_or xs i z))
unfolding count
count_next test z xs i l = rw (add-one, take-suc xs i z l) (count_append test (take i xs) (get_or xs i z ∷ []) ∙ omega arith)

every_one : {A : Type 0} (test : A → Bool) (x : A) → every test (x ∷ []) ≡ test x
unfolding every
every_one test x = and_yes (test x) refl

pub every_append : {A : Type 0} (test : A → Bool) (xs ys : List A) → every test (xs ++ ys) ≡ every test xs && every test ys
unfolding every
every_append test [] ys = refl
every_append test (x ∷ xs) ys = rw (every_append test xs ys) (sym (and_assoc (test x) (every test xs) (every test ys)))

-- One item more.
pub every_next : {A : Type 0} (test : A → Bool) (z : A) (xs : List A) (i : ℕ) → i < length xs
    → every test (take (i + 1) xs) ≡ every test (take i xs) && test (get_or xs i z)
every_next test z xs i l =
    rw (add-one, take-suc xs i z l) (every_append test (take i xs) (get_or xs i z ∷ []) ∙ ap (λ (t : Bool). every test (take i xs) && t) (every_one test (get_or xs i z)))
