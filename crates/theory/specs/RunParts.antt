-- A run taken apart into its node and its two branches, and what a tree says of each part.
use Rattle.std.specs.Prelude.{◌≡◌, Bool, true, ◌&&◌, List, ◌∷◌, ◌++◌, ℕ, suc, ◌+◌, ◌-◌, ◌<◌, length, get_or, ℤ}
use Rattle.std.proofs.Common.{ap, ◌∙◌, add-one, arith, length-drop, get_or-take, get_or-drop, length-take-le}
use Rattle.std.proofs.Math.Seq.{split_at}
use Rattle.terms.specs.Tests.{bit, count, every}
use Rattle.terms.specs.Before.{before}
use Rattle.terms.specs.Run.{middle, axis, node, lefts, rights}
use Rattle.terms.specs.Tree.{tree_run}
use Rattle.theory.specs.Flags.{and_true, true_and}
use Rattle.theory.specs.Counting.{count_append, every_at, at_every}

pub left_length : (run : List ℕ) → length (lefts run) ≡ middle (length run)
left_length run = length-take-le (middle (length run)) run (omega arith)

pub right_length : (run : List ℕ) → length (rights run) ≡ length run - (middle (length run) + 1)
right_length run = length-drop (middle (length run) + 1) run

pub left_at : (run : List ℕ) (i : ℕ) → i < length (lefts run) → get_or (lefts run) i 0 ≡ get_or run i 0
left_at run i l = get_or-take (middle (length run)) run i 0 (omega (arith, left_length run))

pub right_at : (run : List ℕ) (i : ℕ) → get_or (rights run) i 0 ≡ get_or run (middle (length run) + 1 + i) 0
right_at run i = get_or-drop (middle (length run) + 1) run i 0

-- A run is its left branch, its node and its right branch.
pub whole_run : (x : ℕ) (xs : List ℕ) → x ∷ xs ≡ lefts (x ∷ xs) ++ node (x ∷ xs) ∷ rights (x ∷ xs)
whole_run x xs = rw add-one (split_at (x ∷ xs) (middle (length (x ∷ xs))) 0 (omega arith))

pub count_run : (test : ℕ → Bool) (x : ℕ) (xs : List ℕ)
    → count test (x ∷ xs) ≡ count test (lefts (x ∷ xs)) + (bit (test (node (x ∷ xs))) + count test (rights (x ∷ xs)))
unfolding count
count_run test x xs = ap (count test) (whole_run x xs) ∙ count_append test (lefts (x ∷ xs)) (node (x ∷ xs) ∷ rights (x ∷ xs))

-- What a tree says of a run that is not empty; f bounds the descent into its branches.
pub record Parts (f k : ℕ) (at : ℕ → ℕ → ℤ) (j : ℕ) (run : List ℕ) : Type 0 where
  pub before_node : (i : ℕ) → i < length (lefts run) → before at (axis k j) (get_or (lefts run) i 0) (node run) ≡ true
  pub after_node : (i : ℕ) → i < length (rights run) → before at (axis k j) (node run) (get_or (rights run) i 0) ≡ true
  pub left : tree_run f k at (suc j) (lefts run) ≡ true
  pub right : tree_run f k at (suc j) (rights run) ≡ true

pub parts : {f k : ℕ} {at : ℕ → ℕ → ℤ} {j : ℕ} (x : ℕ) (xs : List ℕ) → tree_run (suc f) k at j (x ∷ xs) ≡ true → Parts f k at j (x ∷ xs)
unfolding tree_run
parts {f} {k} {at} {j} x xs e =
    let run : List ℕ = x ∷ xs in
    let l : Bool = every (λ p. before at (axis k j) p (node run)) (lefts run) in
    let r : Bool = every (λ p. before at (axis k j) (node run) p) (rights run) in
    let a = and_true (l && r && tree_run f k at (suc j) (lefts run)) e in
    let b = and_true (l && r) a.0 in
    let c = and_true l b.0 in
    record { before_node = every_at _ 0 (lefts run) c.0; after_node = every_at _ 0 (rights run) c.1; left = b.1; right = a.1 }

pub of_parts : {f k : ℕ} {at : ℕ → ℕ → ℤ} {j : ℕ} (x : ℕ) (xs : List ℕ) → Parts f k at j (x ∷ xs) → tree_run (suc f) k at j (x ∷ xs) ≡ true
unfolding tree_run
of_parts x xs p =
    true_and
    (true_and (true_and (at_every _ 0 (lefts (x ∷ xs)) p.before_node) (at_every _ 0 (rights (x ∷ xs)) p.after_node)) p.left)
    p.right
