-- In a list of refusals whose numbers rise from 1 on, the first that holds is the lowest that holds, and 0 says that none does.
-- The test that gives the answer is not after any other that holds, so its number is no greater.
use Rattle.std.specs.Prelude.{◌≡◌, refl, ◌≢◌, Bool, true, false, ◌&&◌, List, [], ◌∷◌, ℕ, zero, suc, ◌≤◌, ◌<◌, get_or, leb, ltb}
use Rattle.std.proofs.Common.{arith, leb-true, ltb-true, ltb-false, lt-ltb}
use Rattle.terms.specs.Refusals.{Refusal, first_of}
use Rattle.theory.specs.Flags.{clash, and_true, true_and}
use Rattle.theory.specs.FirstRefusal.{none, no_zero, FirstHeld, first_held}

-- The numbers rise, each at least the one before it and the first at least b; two may be alike.
unfoldable pub rises_from : ℕ → List Refusal → Bool
rises_from b [] = true
rises_from b (r ∷ rs) = leb b r.number && rises_from r.number rs

-- The answer is the lowest number whose test holds, and 0 where none does.
pub record Lowest (rs : List Refusal) (answer : ℕ) : Type 0 where
  pub lowest : (i : ℕ) → (get_or rs i none).holds ≡ true → answer ≤ (get_or rs i none).number
  pub found : answer ≢ 0 → (i : ℕ) × ((get_or rs i none).holds ≡ true) × ((get_or rs i none).number ≡ answer)
  pub done : answer ≡ 0 → (i : ℕ) → (get_or rs i none).holds ≡ false

-- No number is below the bound, nor below one before it.
number_from : (b : ℕ) (rs : List Refusal) → rises_from b rs ≡ true → (i : ℕ) → (get_or rs i none).holds ≡ true → b ≤ (get_or rs i none).number
unfolding rises_from
number_from b [] e i h = clash h refl
number_from b (r ∷ rs) e zero h = leb-true b r.number (and_true (leb b r.number) e).0
number_from b (r ∷ rs) e (suc i) h =
    let p = and_true (leb b r.number) e in
    omega (arith, leb-true b r.number p.0, number_from r.number rs p.1 i h)

number_rises : (b : ℕ) (rs : List Refusal) → rises_from b rs ≡ true → (i j : ℕ) → i ≤ j → (get_or rs j none).holds ≡ true
    → (get_or rs i none).number ≤ (get_or rs j none).number
unfolding rises_from
number_rises b [] e i j l h = clash h refl
number_rises b (r ∷ rs) e zero zero l h = omega arith
number_rises b (r ∷ rs) e zero (suc j) l h = number_from r.number rs (and_true (leb b r.number) e).1 j h
number_rises b (r ∷ rs) e (suc i) zero l h = absurd (omega arith)
number_rises b (r ∷ rs) e (suc i) (suc j) l h = number_rises r.number rs (and_true (leb b r.number) e).1 i j (omega arith) h

-- Numbers that rise from 1 on are not 0.
rises_no_zero : (b : ℕ) (rs : List Refusal) → 1 ≤ b → rises_from b rs ≡ true → no_zero rs ≡ true
unfolding rises_from no_zero
rises_no_zero b [] l e = refl
rises_no_zero b (r ∷ rs) l e =
    let p = and_true (leb b r.number) e in
    let m : 1 ≤ r.number = omega (arith, leb-true b r.number p.0) in
    true_and (lt-ltb 0 r.number m) (rises_no_zero r.number rs m p.1)

pub first_lowest : (b : ℕ) (rs : List Refusal) → 1 ≤ b → rises_from b rs ≡ true → Lowest rs (first_of rs)
first_lowest b rs l e = record {
  lowest = λ i h. go (first_of rs) refl i h;
  found = λ n. let p = w.found n in (p.0, p.1, p.2);
  done = λ z. (w.done z).fails;
}
  where
    w : FirstHeld rs (first_of rs)
    w = first_held rs (rises_no_zero b rs l e)

    -- The test that gave the answer is not after one that holds.
    by_place : (k : ℕ) → (get_or rs k none).number ≡ first_of rs → ((j : ℕ) → j < k → (get_or rs j none).holds ≡ false) → (i : ℕ)
        → (get_or rs i none).holds ≡ true → (t : Bool) → ltb i k ≡ t → first_of rs ≤ (get_or rs i none).number
    by_place k number before i h true t = clash h (before i (ltb-true i k t))
    by_place k number before i h false t = omega (arith, number, number_rises b rs e k i (ltb-false i k t) h)

    go : (c : ℕ) → first_of rs ≡ c → (i : ℕ) → (get_or rs i none).holds ≡ true → first_of rs ≤ (get_or rs i none).number
    go zero z i h = omega arith
    go (suc c) z i h =
        let p = w.found (λ n. omega arith) in
        by_place p.0 p.2 p.3 i h (ltb i p.0) refl
