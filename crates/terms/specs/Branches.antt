-- The branches of a shelf: one for each slot, whose node stands there, with its depth, its run of slots and its box.
use Rattle.std.specs.Prelude.{List, [], ◌∷◌, ◌++◌, ℕ, zero, suc, ◌+◌, ◌≤◌, ◌<◌, length, get_or, ℤ, pos}
use Rattle.terms.specs.Run.{middle, axis, node, lefts, rights}
use Rattle.terms.specs.Box.{Box, left_box, right_box, root_box}

-- A branch: how many branches it lies in besides itself, the first slot of its run, how many slots the run has, and its box.
pub record Branch : Type 0 where
  pub depth : ℕ
  pub start : ℕ
  pub size : ℕ
  pub box : Box

-- The slot of its node.
abbrev pub node_slot : Branch → ℕ
node_slot b = b.start + middle b.size

-- The slot is one of its run.
pub record Holds (b : Branch) (slot : ℕ) : Type 0 where
  pub from : b.start ≤ slot
  pub to : slot < b.start + b.size

-- The branches of a run from slot a on, at depth j and with box b, in the order of their nodes' slots. The run's length is enough for the first number.
unfoldable pub branches : ℕ → ℕ → (ℕ → ℕ → ℤ) → ℕ → ℕ → List ℕ → Box → List Branch
branches zero k at a j run b = []
branches (suc f) k at a j [] b = []
branches (suc f) k at a j (x ∷ xs) b =
    let run : List ℕ = x ∷ xs in
    let s : ℕ = axis k j in
    branches f k at a (suc j) (lefts run) (left_box b s (at (node run) s))
    ++ record { depth = j; start = a; size = length run; box = b }
    ∷ branches f k at (a + (middle (length run) + 1)) (suc j) (rights run) (right_box b s (at (node run) s))

-- The branches of a shelf.
abbrev pub shelf_branches : ℕ → (ℕ → ℕ → ℤ) → List ℕ → List Branch
shelf_branches k at run = branches (length run) k at 0 0 run (root_box at run)

-- What a place past the end is read as.
abbrev pub no_branch : Branch
no_branch = record { depth = 0; start = 0; size = 0; box = record { low = λ d. pos 0; high = λ d. pos 0 } }

-- The branch in place s of a list: of the branches of a shelf, the one whose node stands in slot s.
abbrev pub branch_at : List Branch → ℕ → Branch
branch_at bs s = get_or bs s no_branch
