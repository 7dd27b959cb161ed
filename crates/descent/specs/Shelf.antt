-- The shelf as one value has its root: a branch of all slots that splits on dimension 0, and its box.
use Rattle.std.specs.Prelude.{◌≡◌, List, ℕ, length, ℤ}
use Rattle.std.proofs.Common.{arith}
use Rattle.std.proofs.Math.Seq.{take-length}
use Rattle.terms.specs.Box.{box_of}
use Rattle.descent.specs.Root.{Rooted}
use Rattle.descent.specs.Runs.{Child}
use Rattle.descent.specs.declared.runs.Run.{Run}
use Rattle.descent.specs.declared.shelf.Shelf.{Shelf}

-- The value is the shelf of these points and this order.
pub record ShelfOf (k : ℕ) (points : List ℤ) (order : List ℕ) (s : Shelf) : Type 0 where
  pub k_is : s.k ≡ k
  pub points_are : s.points.now ≡ points
  pub order_is : s.order.now ≡ order

pub rooted : (s : Shelf) → Rooted s.k s.points.now s.order.now (box_of s.rows)
rooted s = record {
  standing = record {
    fits = omega arith;
    splits = s.some;
    known = s.known;
    fuel = length s.order.now;
    tree = rw (take-length s.order.now) s.tree;
  };
  alike = s.alike;
}

-- The run is the shelf's root.
abbrev pub RootRun : Shelf → Run → Type 0
RootRun s run = Child 0 (length s.order.now) 0 (box_of s.rows) run.start run.length run.axis (box_of run.rows)
