-- A number is the first of a list of refusals: found test by test, and group by group, as the code goes through them. Of a group it is asked only that no
-- number in it is 0, so that 0 says that it was passed.
use Rattle.std.specs.Prelude.{◌≡◌, refl, ◌≢◌, Bool, true, false, List, [], ◌∷◌, ◌++◌, ℕ}
use Rattle.std.proofs.Common.{sym, ◌∙◌}
use Rattle.terms.specs.Refusals.{Refusal, first_of}
use Rattle.theory.specs.FirstRefusal.{Passed, no_zero, first_held, first_skip, first_stop}

-- The number that the list of refusals gives.
pub record First (rs : List Refusal) (c : ℕ) : Type 0 where
  pub is : c ≡ first_of rs

pub first_none : First [] 0
unfolding first_of
first_none = record { is = refl }

-- The first test holds.
pub first_holds : {number : ℕ} {holds : Bool} {rs : List Refusal} → holds ≡ true → First (record { number = number; holds = holds } ∷ rs) number
unfolding first_of
first_holds e = record { is = rw e }

-- The first test does not hold, and the others give the number.
pub first_passes : {number : ℕ} {holds : Bool} {rs : List Refusal} {c : ℕ} → holds ≡ false → First rs c
    → First (record { number = number; holds = holds } ∷ rs) c
unfolding first_of
first_passes e f = record { is = rw e f.is }

-- A first group that gives a refusal gives it for the whole.
pub first_stops : {xs : List Refusal} {c : ℕ} (ys : List Refusal) → First xs c → c ≢ 0 → First (xs ++ ys) c
first_stops {xs} ys f n = record { is = f.is ∙ sym (first_stop xs ys (λ z. n (f.is ∙ z))) }

-- A group that gives 0 was passed.
pub first_passed : {xs : List Refusal} {c : ℕ} → no_zero xs ≡ true → First xs c → c ≡ 0 → Passed xs
first_passed {xs} n f z = (first_held xs n).done (sym f.is ∙ z)

-- A first group that was passed leaves the number to the others.
pub first_goes_on : {xs ys : List Refusal} {c d : ℕ} → no_zero xs ≡ true → First xs c → c ≡ 0 → First ys d → First (xs ++ ys) d
first_goes_on {xs} {ys} n f z g = record { is = g.is ∙ sym (first_skip xs ys (first_passed n f z)) }

-- What tests with the live bytes among them find: the first refusal or 0, and beside 0 how many slots the shelf has.
pub record Found (rs : List Refusal) (v code slots : ℕ) : Type 0 where
  pub first : First rs code
  pub many : code ≡ 0 → slots ≡ v

-- A refusal tells nothing of the slots.
pub found_refused : {rs : List Refusal} {v c slots : ℕ} → First rs c → c ≢ 0 → Found rs v c slots
found_refused f m = record { first = f; many = λ z. absurd (m z) }

-- A first group that gives a refusal gives it for the whole,
pub found_stops : {xs : List Refusal} {v c slots : ℕ} (ys : List Refusal) → Found xs v c slots → c ≢ 0 → Found (xs ++ ys) v c slots
found_stops ys f m = found_refused (first_stops ys f.first m) m

-- and one that was passed leaves the number to the others, and tells the slots.
pub found_goes_on : {xs ys : List Refusal} {v c d slots : ℕ} → no_zero xs ≡ true → Found xs v c slots → c ≡ 0 → First ys d → Found (xs ++ ys) v d slots
found_goes_on n f z g = record { first = first_goes_on n f.first z g; many = λ e. f.many z }

-- The same of what `?` goes on after.
pub first_after : {xs ys : List Refusal} {d : ℕ} → no_zero xs ≡ true → First xs 0 → First ys d → First (xs ++ ys) d
first_after n f g = first_goes_on n f refl g
