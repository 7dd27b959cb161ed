-- The answer is the first refusal that holds, in the order of testing, and 0 says that none does. All that is asked of a list of refusals is that
-- no number in it is 0. By the first refusal: where it holds it is the answer, and where it does not the others give it.
use Rattle.std.specs.Prelude.{◌≡◌, refl, ◌≢◌, Bool, true, false, ◌&&◌, cond, List, [], ◌∷◌, ◌++◌, ℕ, zero, suc, ◌<◌, get_or, ltb}
use Rattle.std.proofs.Common.{not-suc-le-zero, arith, ltb-true}
use Rattle.terms.specs.Refusals.{Refusal, first_of, if_done}
use Rattle.theory.specs.Flags.{and_true}

-- What stands past the end of a list of refusals: it does not hold.
abbrev pub none : Refusal
none = record { number = 0; holds = false }

-- No number in the list is 0.
unfoldable pub no_zero : List Refusal → Bool
no_zero [] = true
no_zero (r ∷ rs) = ltb 0 r.number && no_zero rs

-- No test of the list holds.
pub record Passed (rs : List Refusal) : Type 0 where
  pub fails : (i : ℕ) → (get_or rs i none).holds ≡ false

-- The answer is the number of a test that holds, before which none does; and 0 where none does.
pub record FirstHeld (rs : List Refusal) (answer : ℕ) : Type 0 where
  pub found : answer ≢ 0
      → (i : ℕ) × ((get_or rs i none).holds ≡ true) × ((get_or rs i none).number ≡ answer) × ((j : ℕ) → j < i → (get_or rs j none).holds ≡ false)
  pub done : answer ≡ 0 → Passed rs

-- One refusal more in front, which holds or does not.
one_more : (t : Bool) (c : ℕ) (rs : List Refusal) (answer : ℕ) → 0 < c → FirstHeld rs answer → FirstHeld (record { number = c; holds = t } ∷ rs) (cond t c answer)
one_more true c rs answer l w = record {
  found = λ n. (0, refl, refl, λ j m. absurd (not-suc-le-zero m));
  done = λ z. absurd (omega arith);
}
one_more false c rs answer l w = record {
  found = λ n.
      let p = w.found n in
      (suc p.0, p.1, p.2, λ j. elim j as (λ t. t < suc p.0 → (get_or (record { number = c; holds = false } ∷ rs) t none).holds ≡ false) [ zero ↦ λ m. refl | suc j ↦ λ m. p.3 j (omega arith) ]);
  done = λ z. record { fails = λ i. elim i as (λ t. (get_or (record { number = c; holds = false } ∷ rs) t none).holds ≡ false) [ zero ↦ refl | suc i ↦ (w.done z).fails i ] };
}

pub first_held : (rs : List Refusal) → no_zero rs ≡ true → FirstHeld rs (first_of rs)
unfolding no_zero first_of
first_held [] e = record { found = λ n. absurd (n refl); done = λ z. record { fails = λ i. refl } }
first_held (r ∷ rs) e =
    let p = and_true (ltb 0 r.number) e in
    one_more r.holds r.number rs (first_of rs) (ltb-true 0 r.number p.0) (first_held rs p.1)

-- No test of the first part holds, nor of the second.
pub passed_parts : (xs ys : List Refusal) → Passed (xs ++ ys) → Passed xs × Passed ys
passed_parts [] ys w = (record { fails = λ i. refl }, w)
passed_parts (x ∷ xs) ys w =
    let ih : Passed xs × Passed ys = passed_parts xs ys (record { fails = λ i. w.fails (suc i) }) in
    (record { fails = λ i. elim i as (λ t. (get_or (x ∷ xs) t none).holds ≡ false) [ zero ↦ w.fails 0 | suc i ↦ ih.0.fails i ] }, ih.1)

pub passed_join : (xs ys : List Refusal) → Passed xs → Passed ys → Passed (xs ++ ys)
passed_join [] ys v w = w
passed_join (x ∷ xs) ys v w =
    let ih : Passed (xs ++ ys) = passed_join xs ys (record { fails = λ i. v.fails (suc i) }) w in
    record { fails = λ i. elim i as (λ t. (get_or ((x ∷ xs) ++ ys) t none).holds ≡ false) [ zero ↦ v.fails 0 | suc i ↦ ih.fails i ] }

-- One test more that does not hold.
pub passed_next : {number : ℕ} {holds : Bool} {rs : List Refusal} → holds ≡ false → Passed rs → Passed (record { number = number; holds = holds } ∷ rs)
passed_next {number} {holds} {rs} e w = record {
  fails = λ i. elim i as (λ t. (get_or (record { number = number; holds = holds } ∷ rs) t none).holds ≡ false) [ zero ↦ e | suc i ↦ w.fails i ];
}

pub passed_none : Passed []
passed_none = record { fails = λ i. refl }

-- Where no test holds the answer is 0.
pub first_zero : (rs : List Refusal) → Passed rs → first_of rs ≡ 0
unfolding first_of
first_zero [] w = refl
first_zero (r ∷ rs) w = rw (w.fails 0) (first_zero rs (record { fails = λ i. w.fails (suc i) }))

-- A list that was passed leaves the answer to what is tested after it; one that was not gives it.
pub first_skip : (xs ys : List Refusal) → Passed xs → first_of (xs ++ ys) ≡ first_of ys
unfolding first_of
first_skip [] ys w = refl
first_skip (x ∷ xs) ys w = rw (w.fails 0) (first_skip xs ys (record { fails = λ i. w.fails (suc i) }))

pub first_stop : (xs ys : List Refusal) → first_of xs ≢ 0 → first_of (xs ++ ys) ≡ first_of xs
unfolding first_of
first_stop [] ys n = absurd (n refl)
first_stop (x ∷ xs) ys n = go x.holds (first_stop xs ys) n
  where
    go : (t : Bool) → (first_of xs ≢ 0 → first_of (xs ++ ys) ≡ first_of xs) → cond t x.number (first_of xs) ≢ 0
        → cond t x.number (first_of (xs ++ ys)) ≡ cond t x.number (first_of xs)
    go true ih n = refl
    go false ih n = ih n

-- A refusal's value is the second.
pub if_refused : {A : Type 0} (c : ℕ) (x y : A) → c ≢ 0 → if_done c x y ≡ y
if_refused zero x y r = absurd (r refl)
if_refused (suc c) x y r = refl

-- An answer's number is that of the refusal, and 0 where none holds.
pub if_code : {A : Type 0} (code : A → ℕ) (c : ℕ) (done refused : A) → code done ≡ 0 → code refused ≡ c → code (if_done c done refused) ≡ c
if_code code zero done refused d r = d
if_code code (suc c) done refused d r = r

-- What both values have in common, the one has that is given.
pub if_either : {A B : Type 0} (f : A → B) (c : ℕ) (done refused : A) {b : B} → f done ≡ b → f refused ≡ b → f (if_done c done refused) ≡ b
if_either f zero done refused d r = d
if_either f (suc c) done refused d r = r
