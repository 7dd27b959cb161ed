-- Runs of numbers that count alike for each number are the Same: the numbers decide every other test.
-- The first run's numbers are taken out of the second one by one.
use Rattle.std.specs.Prelude.{◌≡◌, refl, Bool, true, false, not, List, [], ◌∷◌, ◌++◌, ℕ, zero, suc, ◌+◌, ◌≤◌, length, eqb}
use Rattle.std.proofs.Common.{sym, ap, ◌∙◌, arith, eqb-true, eq-eqb}
use Rattle.terms.specs.Tests.{bit, count, every}
use Rattle.theory.specs.Flags.{clash, and_true}
use Rattle.theory.specs.Counting.{Same, count_append, count_not}

-- The run is what stands before a place with x, x, and what stands after it.
record Around (x : ℕ) (run : List ℕ) : Type 0 where
  front : List ℕ
  back : List ℕ
  whole : run ≡ front ++ x ∷ back

-- A number that is counted stands somewhere.
find : (x : ℕ) (run : List ℕ) → 1 ≤ count (eqb x) run → Around x run
unfolding count
find x [] h = absurd (omega arith)
find x (y ∷ run) h = go (eqb x y) refl h (find x run)
  where
    go : (t : Bool) → eqb x y ≡ t → 1 ≤ bit t + count (eqb x) run → (1 ≤ count (eqb x) run → Around x run) → Around x (y ∷ run)
    go true e h ih = record { front = []; back = run; whole = ap (λ (v : ℕ). v ∷ run) (sym (eqb-true x y e)) }
    go false e h ih =
        let w = ih (omega arith) in
        record { front = y ∷ w.front; back = w.back; whole = ap (λ (r : List ℕ). y ∷ r) w.whole }

-- What a run counts, with one of its numbers taken out.
around_count : (test : ℕ → Bool) {x : ℕ} {run : List ℕ} (w : Around x run) → count test run ≡ bit (test x) + count test (w.front ++ w.back)
unfolding count
around_count test {x} w = omega (
  arith,
  ap (count test) w.whole ∙ count_append test w.front (x ∷ w.back),
  count_append test w.front w.back,
)

-- A run that has each number no oftener than another counts no more for any test.
pub count_within : (xs ys : List ℕ) → ((v : ℕ) → count (eqb v) xs ≤ count (eqb v) ys) → (test : ℕ → Bool) → count test xs ≤ count test ys
unfolding count
count_within [] ys h test = omega arith
count_within (x ∷ xs) ys h test =
    let one : bit (eqb x x) ≡ 1 = ap bit (eq-eqb x x refl) in
    let w : Around x ys = find x ys (omega (arith, h x)) in
    omega (
      arith,
      around_count test w,
      count_within xs (w.front ++ w.back) (λ v. omega (arith, h v, around_count (eqb v) w)) test,
    )

pub same_by_number : {xs ys : List ℕ} → ((v : ℕ) → count (eqb v) xs ≡ count (eqb v) ys) → Same xs ys
same_by_number {xs} {ys} h = record {
  counts = λ test. omega (arith, count_within xs ys (λ v. omega (arith, h v)) test, count_within ys xs (λ v. omega (arith, h v)) test);
}

-- As long as the other and no number oftener: no number can be missing.
pub same_by_length : {xs ys : List ℕ} → ((v : ℕ) → count (eqb v) xs ≤ count (eqb v) ys) → length xs ≡ length ys → Same xs ys
same_by_length {xs} {ys} h e = record {
  counts = λ test. omega (
    arith,
    count_within xs ys h test,
    count_within xs ys h (λ v. not (test v)),
    count_not test xs,
    count_not test ys,
  );
}

-- A number that stands in a run passes what every number of the run passes.
pub every_counted : (test : ℕ → Bool) (run : List ℕ) (v : ℕ) → every test run ≡ true → 1 ≤ count (eqb v) run → test v ≡ true
unfolding every count
every_counted test [] v e h = absurd (omega arith)
every_counted test (x ∷ run) v e h =
    let p = and_true (test x) e in
    go (eqb v x) refl h p.0 (every_counted test run v p.1)
  where
    go : (t : Bool) → eqb v x ≡ t → 1 ≤ bit t + count (eqb v) run → test x ≡ true → (1 ≤ count (eqb v) run → test v ≡ true) → test v ≡ true
    go true q h a ih = ap test (eqb-true v x q) ∙ a
    go false q h a ih = ih (omega arith)

-- A number that fails where every number of the run passes does not stand in it.
pub count_none : (test : ℕ → Bool) (run : List ℕ) (v : ℕ) → every test run ≡ true → test v ≡ false → count (eqb v) run ≡ 0
count_none test run v e n = go (count (eqb v) run) refl
  where
    go : (c : ℕ) → count (eqb v) run ≡ c → c ≡ 0
    go zero h = refl
    go (suc c) h = clash (every_counted test run v e (omega arith)) n
