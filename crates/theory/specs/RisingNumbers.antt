-- The rising numbers a, a + 1 and so on, and those of 0 to m - 1 that belong: their places and their counts.
use Rattle.std.specs.Prelude.{◌≡◌, refl, Bool, true, false, ◌&&◌, not, List, [], ◌∷◌, ◌++◌, ℕ, zero, suc, ◌+◌, ◌-◌, ◌≤◌, ◌<◌, length, get_or, eqb, ltb}
use Rattle.std.proofs.Common.{sym, ap, ◌∙◌, append-nil, not-suc-le-zero, le_of_suc-le-suc, add-zero, arith, length-append, eqb-true, ltb-true, ltb-false, lt-ltb, le-ltb}
use Rattle.std.proofs.lemmas.Bool.{eqb-false}
use Rattle.whole.specs.IndexedTotal.{total_to}
use Rattle.whole.proofs.IndexedTotal.{total_front, total_same}
use Rattle.terms.specs.Tests.{bit, count, every, keep, pick, rising}
use Rattle.terms.specs.Points.{below}
use Rattle.terms.specs.Tree.{members}
use Rattle.theory.specs.Flags.{true_and, and_no}
use Rattle.theory.specs.Counting.{count_keep, count_same, count_no, count_not, count_every, every_count, every_at}
use Rattle.theory.specs.Keeping.{keep_append, keep_every, length_keep, every_keep, every_kept}

pub length_rising : (a c : ℕ) → length (rising a c) ≡ c
unfolding rising
length_rising a zero = refl
length_rising a (suc c) = ap suc (length_rising (suc a) c)

pub rising_at : (a c i z : ℕ) → i < c → get_or (rising a c) i z ≡ a + i
unfolding rising
rising_at a zero i z l = absurd (not-suc-le-zero l)
rising_at a (suc c) zero z l = omega arith
rising_at a (suc c) (suc i) z l = let ih = rising_at (suc a) c i z (le_of_suc-le-suc l) in omega arith

pub rising_append : (a c d : ℕ) → rising a (c + d) ≡ rising a c ++ rising (a + c) d
unfolding rising
rising_append a zero d =
    let e : 0 + d ≡ d = omega arith in
    let f : a + 0 ≡ a = omega arith in
    rw (e, f)
rising_append a (suc c) d =
    let e : suc c + d ≡ suc (c + d) = omega arith in
    let f : a + suc c ≡ suc a + c = omega arith in
    rw (e, f) (ap (λ (run : List ℕ). a ∷ run) (rising_append (suc a) c d))

-- Every rising number passes: number by number.
pub every_rising : (test : ℕ → Bool) (a c : ℕ) → ((p : ℕ) → a ≤ p → p < a + c → test p ≡ true) → every test (rising a c) ≡ true
unfolding rising every
every_rising test a zero h = refl
every_rising test a (suc c) h = true_and (h a (omega arith) (omega arith)) (every_rising test (suc a) c (λ p l r. h p (omega arith) (omega arith)))

-- What the rising numbers count is the total over their places.
pub count_rising : (test : ℕ → Bool) (a c : ℕ) → count test (rising a c) ≡ total_to c (λ i. bit (test (a + i)))
unfolding rising count total_to
count_rising test a zero = refl
count_rising test a (suc c) = omega (
  arith,
  count_rising test (suc a) c,
  total_front c (λ i. bit (test (a + i))),
  total_same c (λ i. bit (test (suc a + i))) (λ i. bit (test (a + suc i))) (λ i l. ap (λ (v : ℕ). bit (test v)) (omega arith)),
  ap (λ (v : ℕ). bit (test v)) (add-zero a),
)

pub count_to : (test : ℕ → Bool) (m : ℕ) → count test (rising 0 m) ≡ total_to m (λ i. bit (test i))
count_to test m = count_rising test 0 m ∙ total_same m _ _ (λ i l. ap (λ (v : ℕ). bit (test v)) (omega arith))

-- Below m + 1 are m and what is below m.
below_next : (v m : ℕ) → bit (ltb v (suc m)) ≡ bit (ltb v m) + bit (eqb v m)
below_next v m = go (ltb v m) (eqb v m) refl refl
  where
    go : (t u : Bool) → ltb v m ≡ t → eqb v m ≡ u → bit (ltb v (suc m)) ≡ bit t + bit u
    go true true a b = absurd (omega (arith, ltb-true v m a, eqb-true v m b))
    go true false a b = ap bit (lt-ltb v (suc m) (omega (arith, ltb-true v m a)))
    go false true a b = ap bit (lt-ltb v (suc m) (omega (arith, eqb-true v m b)))
    go false false a b = ap bit (le-ltb v (suc m) (omega (arith, ltb-false v m a, eqb-false v m b)))

-- A number is counted once among those below m if it is below m, and otherwise never.
one_below : (v m : ℕ) → total_to m (λ i. bit (eqb v i)) ≡ bit (ltb v m)
unfolding total_to
one_below v zero = ap bit (sym (le-ltb v 0 (omega arith)))
one_below v (suc m) = omega (arith, one_below v m, below_next v m)

pub count_below : (v m : ℕ) → count (eqb v) (rising 0 m) ≡ bit (ltb v m)
count_below v m = count_to (eqb v) m ∙ one_below v m

-- The numbers below m that belong do belong, and are below m.
pub members_belong : (belongs : ℕ → Bool) (m : ℕ) → every belongs (members belongs m) ≡ true
members_belong belongs m = every_keep belongs (rising 0 m)

pub members_below : (belongs : ℕ → Bool) (m : ℕ) → every (below m) (members belongs m) ≡ true
members_below belongs m = every_kept (below m) belongs (rising 0 m) (every_rising (below m) 0 m (λ p l r. lt-ltb p m (omega arith)))

-- Each of them stands once, and no other number does.
pub count_members : (belongs : ℕ → Bool) (m v : ℕ) → count (eqb v) (members belongs m) ≡ bit (belongs v && ltb v m)
count_members belongs m v =
    count_keep (eqb v) belongs (rising 0 m)
    ∙ count_same 0 _ (λ p. belongs v && eqb v p) (rising 0 m) (λ i l. alike (get_or (rising 0 m) i 0))
    ∙ go (belongs v)
  where
    alike : (p : ℕ) → belongs p && eqb v p ≡ belongs v && eqb v p
    alike p = at_eqb (eqb v p) refl
      where
        at_eqb : (t : Bool) → eqb v p ≡ t → belongs p && t ≡ belongs v && t
        at_eqb true e = ap (λ (z : ℕ). belongs z && true) (sym (eqb-true v p e))
        at_eqb false e = and_no (belongs p) refl ∙ sym (and_no (belongs v) refl)

    go : (t : Bool) → count (λ p. t && eqb v p) (rising 0 m) ≡ bit (t && ltb v m)
    go true = count_below v m
    go false = count_no (rising 0 m)

-- They are as many as belong, and m at most.
pub length_members : (belongs : ℕ → Bool) (m : ℕ) → length (members belongs m) ≡ count belongs (rising 0 m)
length_members belongs m = length_keep belongs (rising 0 m)

pub members_few : (belongs : ℕ → Bool) (m : ℕ) → length (members belongs m) ≤ m
members_few belongs m = omega (arith, length_members belongs m, count_not belongs (rising 0 m), length_rising 0 m)

-- Where all numbers below m belong, m do; and where m do, all of them belong.
pub all_counted : (belongs : ℕ → Bool) (m : ℕ) → ((p : ℕ) → p < m → belongs p ≡ true) → count belongs (rising 0 m) ≡ m
all_counted belongs m each =
    omega (arith, count_not belongs (rising 0 m), length_rising 0 m, every_count belongs (rising 0 m) (every_rising belongs 0 m (λ p l r. each p (omega arith))))

pub counted_all : (belongs : ℕ → Bool) (m : ℕ) → count belongs (rising 0 m) ≡ m → (p : ℕ) → p < m → belongs p ≡ true
counted_all belongs m full p l =
    let none : count (λ q. not (belongs q)) (rising 0 m) ≡ 0 = omega (arith, count_not belongs (rising 0 m), length_rising 0 m) in
    let here : get_or (rising 0 m) p 0 ≡ p = omega (arith, rising_at 0 m p 0 l) in
    rw here at (every_at belongs 0 (rising 0 m) (count_every belongs (rising 0 m) none) p (omega (arith, length_rising 0 m)))

-- Of the numbers below n all belong to a shelf of n.
pub members_shelf : (n : ℕ) → members (below n) n ≡ rising 0 n
members_shelf n = keep_every (below n) 0 (rising 0 n) (every_rising (below n) 0 n (λ p l r. lt-ltb p n (omega arith)))

-- One number more.
pub members_next : (belongs : ℕ → Bool) (n : ℕ) → members belongs (n + 1) ≡ members belongs n ++ pick (belongs n) n []
unfolding keep rising
members_next belongs n =
    let e : 0 + n ≡ n = omega arith in
    rw e at (ap (keep belongs) (rising_append 0 n 1) ∙ keep_append belongs (rising 0 n) (rising (0 + n) 1))

-- Of fewer numbers no more belong, and where as many do, they are the same.
members_more : (belongs : ℕ → Bool) {n m : ℕ} → n ≤ m → members belongs m ≡ members belongs n ++ keep belongs (rising (0 + n) (m - n))
members_more belongs {n} {m} l =
    let e : n + (m - n) ≡ m = omega arith in
    rw e at (ap (keep belongs) (rising_append 0 n (m - n)) ∙ keep_append belongs (rising 0 n) (rising (0 + n) (m - n)))

pub members_fewer : (belongs : ℕ → Bool) {n m : ℕ} → n ≤ m → length (members belongs n) ≤ length (members belongs m)
members_fewer belongs {n} {m} l =
    omega (arith, ap length (members_more belongs l), length-append (members belongs n) (keep belongs (rising (0 + n) (m - n))))

pub members_all : (belongs : ℕ → Bool) {n m : ℕ} → n ≤ m → length (members belongs m) ≤ length (members belongs n) → members belongs n ≡ members belongs m
members_all belongs {n} {m} l few =
    let rest : List ℕ = keep belongs (rising (0 + n) (m - n)) in
    let none : rest ≡ [] = length_none rest (omega (arith, ap length (members_more belongs l), length-append (members belongs n) rest)) in
    sym (members_more belongs l ∙ rw none (append-nil (members belongs n)))
  where
    length_none : (xs : List ℕ) → length xs ≡ 0 → xs ≡ []
    length_none [] e = refl
    length_none (x ∷ xs) e = absurd (omega arith)
