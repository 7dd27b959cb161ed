-- The way to a slot: the branches from the run's own down to the one whose node stands in the slot, and what is to be told of it.
use Rattle.std.specs.Prelude.{◌≡◌, cond, List, [], ◌∷◌, ℕ, zero, suc, ◌+◌, ◌-◌, ◌<◌, length, ℤ, eqb, ltb}
use Rattle.terms.specs.Run.{middle, lefts, rights}
use Rattle.terms.specs.Box.{Box}
use Rattle.terms.specs.Branches.{Branch, node_slot, Holds, branch_at}
use Rattle.theory.specs.Boxes.{In, Nested}
use Rattle.theory.specs.BranchesOfARun.{left_of, right_of, own_branch}

-- The way to place i of a run from slot a on, at depth j and with box b. The run's length is enough for the first number.
unfoldable pub way : ℕ → ℕ → (ℕ → ℕ → ℤ) → ℕ → ℕ → List ℕ → Box → ℕ → List Branch
way zero k at a j run b i = []
way (suc f) k at a j run b i =
    let m : ℕ = middle (length run) in
    own_branch a j run b
    ∷ cond
    (eqb i m)
    []
    (cond
    (ltb i m)
    (way f k at a (suc j) (lefts run) (left_of k at j run b) i)
    (way f k at (a + (m + 1)) (suc j) (rights run) (right_of k at j run b) (i - (m + 1))))

-- A branch at place t of the way to slot c, the first being at depth j: it is one of the branches bs of the slots from a on, and holds the slot; the point x
-- lies in its box, and the slot's own box lies within it.
pub record OnWay (k : ℕ) (x : ℕ → ℤ) (own : Box) (bs : List Branch) (a c j t : ℕ) (b : Branch) : Type 0 where
  pub place : ℕ
  pub known : place < length bs
  pub listed : branch_at bs place ≡ b
  pub node_in : node_slot b ≡ a + place
  pub deep : b.depth ≡ j + t
  pub holds : Holds b c
  pub point_in : In k b.box x
  pub own_within : Nested k own b.box

-- The way to slot c: each branch of it is such a one, and every branch that holds the slot is on it.
pub record WayTold (k : ℕ) (x : ℕ → ℤ) (own : Box) (bs : List Branch) (a c j : ℕ) (w : List Branch) : Type 0 where
  pub each : (t : ℕ) → t < length w → OnWay k x own bs a c j t (branch_at w t)
  pub all : (s : ℕ) → s < length bs → Holds (branch_at bs s) c → (t : ℕ) × (t < length w) × (branch_at w t ≡ branch_at bs s)

-- With the first box of the way.
pub record WayIn (k : ℕ) (x : ℕ → ℤ) (own top : Box) (bs : List Branch) (a c j : ℕ) (w : List Branch) : Type 0 where
  pub told : WayTold k x own bs a c j w
  pub within : Nested k own top
