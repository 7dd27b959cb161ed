-- Branches as a walk goes down by them, whatever box each is judged by: what a branch says of its run, of its box and of the boxes of its slots, and what the two
-- branches of its node are. The walk by branch boxes and the walk by tight boxes are two kinds of them.
use Rattle.std.specs.Prelude.{◌≡◌, false, List, [], ◌∷◌, ◌++◌, ℕ, ◌+◌, ◌-◌, ◌/◌, ◌≤◌, ◌<◌, length, ℤ}
use Rattle.terms.specs.Tests.{count}
use Rattle.terms.specs.Points.{coord}
use Rattle.terms.specs.Box.{Box, box_of}
use Rattle.terms.specs.Region.{Region, is_open}
use Rattle.theory.specs.Boxes.{Held, Alike, Nested}
use Rattle.region.specs.Ranges.{BoxRanges}
use Rattle.descent.specs.Slots.{run_of}
use Rattle.descent.specs.declared.runs.Run.{Run}
use Rattle.descent.specs.declared.slots.Slots.{Slots}

-- A branch of the c slots from slot a on: the box by which it is judged holds its points, and where it is settled no slot is open, of those with these boxes.
pub record Going (k : ℕ) (at : ℕ → ℕ → ℤ) (order : List ℕ) (a c : ℕ) (b : Box) (slot_boxes : List Box) : Type 0 where
  pub fits : a + c ≤ length order
  pub held : Held k at b (run_of order a c)
  pub ranges : 0 < c → BoxRanges k b
  pub long : length slot_boxes ≡ c
  pub settled : (g : Region) → g.k ≡ k → is_open g b ≡ false → count (is_open g) slot_boxes ≡ 0

-- A branch of a node that has the c slots from slot a on, in a box within the node's.
pub record Within (k a c : ℕ) (b : Box) (run : Run) : Type 0 where
  pub starts : run.start ≡ a
  pub slots : run.length ≡ c
  pub nested : Nested k (box_of run.rows) b

-- What every kind of branches keeps: `goes` says which runs are branches of the slots, `own` by which box the words judge one, `boxes` what the boxes of its slots
-- are, and the other two which are the branches of its node.
pub record BranchLaws {Self : Type 0} (goes : Self → Slots → Run → Type 0) (own : Self → Slots → Run → Box) (boxes : Self → Slots → Run → List Box)
    (is_left is_right : Self → Slots → Run → Run → Type 0) : Type 0 where
  pub going : (s : Self) (n : Slots) (r : Run) → goes s n r → Going n.k (coord n.k n.points.now) n.order.now r.start r.length (box_of r.rows) (boxes s n r)
  pub alike : (s : Self) (n : Slots) (r : Run) → goes s n r → 0 < r.length → Alike n.k (box_of r.rows) (own s n r)
  pub left : (s : Self) (n : Slots) (r l : Run) → goes s n r → 0 < r.length → is_left s n r l
      → goes s n l × Within n.k r.start (r.length / 2) (box_of r.rows) l
  pub right : (s : Self) (n : Slots) (r t : Run) → goes s n r → 0 < r.length → is_right s n r t
      → goes s n t × Within n.k (r.start + r.length / 2 + 1) (r.length - r.length / 2 - 1) (box_of r.rows) t
  pub whole : (s : Self) (n : Slots) (r l t : Run) → goes s n r → 0 < r.length → is_left s n r l → is_right s n r t
      → boxes s n r ≡ boxes s n l ++ own s n r ∷ boxes s n t
  pub alone : (s : Self) (n : Slots) (r : Run) → goes s n r → r.length ≡ 1 → boxes s n r ≡ own s n r ∷ []
