-- The number that bounds the descent of `tree_run` does not matter once it is the run's length: both branches are shorter than their run.
use Rattle.std.specs.Prelude.{◌≡◌, refl, List, [], ◌∷◌, ℕ, zero, suc, ◌≤◌, length, ℤ}
use Rattle.std.proofs.Common.{not-suc-le-zero, arith}
use Rattle.terms.specs.Run.{lefts, rights}
use Rattle.terms.specs.Tree.{tree_run}
use Rattle.theory.specs.RunParts.{left_length, right_length}

-- Any two bounds of at least the run's length give the same answer: "A branch is a run of slots" and nothing besides.
pub tree_fuel : (f e k : ℕ) (at : ℕ → ℕ → ℤ) (j : ℕ) (run : List ℕ) → length run ≤ f → length run ≤ e
    → tree_run f k at j run ≡ tree_run e k at j run
unfolding tree_run
tree_fuel zero zero k at j run h l = refl
tree_fuel zero (suc e) k at j [] h l = refl
tree_fuel zero (suc e) k at j (x ∷ xs) h l = absurd (not-suc-le-zero h)
tree_fuel (suc f) zero k at j [] h l = refl
tree_fuel (suc f) zero k at j (x ∷ xs) h l = absurd (not-suc-le-zero l)
tree_fuel (suc f) (suc e) k at j [] h l = refl
tree_fuel (suc f) (suc e) k at j (x ∷ xs) h l =
    let a = left_length (x ∷ xs) in
    let b = right_length (x ∷ xs) in
    rw (tree_fuel f e k at (suc j) (lefts (x ∷ xs)) (omega arith) (omega arith), tree_fuel f e k at (suc j) (rights (x ∷ xs)) (omega arith) (omega arith))
