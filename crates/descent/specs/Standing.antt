-- Where a branch stands: its run of slots, the dimension on which its node splits, and its numbers. The node of a branch that is not empty has a point, and its
-- two branches stand in the slots before and after it and split on the next dimension.
use Rattle.std.specs.Prelude.{◌≡◌, refl, true, List, [], ◌∷◌, ℕ, zero, suc, ◌+◌, ◌-◌, ◌/◌, ◌≤◌, ◌<◌, length, get_or, ℤ, pos, negsuc}
use Rattle.std.proofs.Common.{◌∙◌, not-suc-le-zero, mod-lt, arith}
use Rattle.terms.specs.Points.{coord}
use Rattle.terms.specs.Run.{axis}
use Rattle.terms.specs.Tree.{tree_run}
use Rattle.theory.specs.Flags.{clash}
use Rattle.theory.specs.TreeDepth.{tree_depth, next_depth}
use Rattle.theory.specs.RunParts.{Parts, parts}
use Rattle.theory.specs.Tested.{Between}
use Rattle.descent.specs.Points.{HasPoint}
use Rattle.descent.specs.Slots.{run_of, own_of, run_length, run_lefts, run_rights}

-- Every slot holds the number of a point.
pub record Known (k : ℕ) (points : List ℤ) (order : List ℕ) : Type 0 where
  pub each : (i : ℕ) → i < length order → HasPoint k points (get_or order i 0)

-- The c slots of the order from slot a on are a branch whose node splits on dimension s.
pub record Standing (k : ℕ) (points : List ℤ) (order : List ℕ) (a c s : ℕ) : Type 0 where
  pub fits : a + c ≤ length order
  pub splits : s < k
  pub known : Known k points order
  pub fuel : ℕ
  pub tree : tree_run fuel k (coord k points) s (run_of order a c) ≡ true

-- A run that is not empty and is a tree, taken apart.
run_parts : (e : ℕ) {k : ℕ} {at : ℕ → ℕ → ℤ} {j : ℕ} (run : List ℕ) → 0 < length run → tree_run e k at j run ≡ true → (f : ℕ) × Parts f k at j run
unfolding tree_run
run_parts e [] some t = absurd (not-suc-le-zero some)
run_parts zero (x ∷ xs) some t = clash t refl
run_parts (suc f) (x ∷ xs) some t = (f, parts x xs t)

module _ {k : ℕ} {points : List ℤ} {order : List ℕ} {a c s : ℕ} (w : Standing k points order a c s) (some : 0 < c) where
  -- The node's number is that of a point, whose coordinate on the dimension of the split is in its range.
  pub own_point : HasPoint k points (own_of order a c)
  own_point = w.known.each (a + c / 2) (omega arith)

  pub own_range : Between (negsuc 32767) (coord k points (own_of order a c) s) (pos 32767)
  own_range = own_point.ranges.ranges s w.splits

  -- What the tree says of its node and of its two branches.
  pub standing_parts : (f : ℕ) × Parts f k (coord k points) s (run_of order a c)
  standing_parts = run_parts w.fuel (run_of order a c) (rw (run_length order a c w.fits) some) w.tree

  child : (b n : ℕ) → b + n ≤ length order → (f : ℕ) → tree_run f k (coord k points) (suc s) (run_of order b n) ≡ true → Standing k points order b n (axis k (s + 1))
  child b n fits f t = record {
    fits = fits;
    splits = mod-lt (s + 1) (omega (arith, w.splits));
    known = w.known;
    fuel = f;
    tree = tree_depth f k (coord k points) (axis k (s + 1)) (suc s) (run_of order b n) (next_depth k s (axis k (s + 1)) refl) ∙ t;
  }

  pub standing_left : Standing k points order a (c / 2) (axis k (s + 1))
  standing_left = child a (c / 2) (omega (arith, w.fits)) standing_parts.0 (rw (run_lefts order a c w.fits) at standing_parts.1.left)

  pub standing_right : Standing k points order (a + c / 2 + 1) (c - c / 2 - 1) (axis k (s + 1))
  standing_right = child (a + c / 2 + 1) (c - c / 2 - 1) (omega (arith, w.fits)) standing_parts.0 (rw (run_rights order a c w.fits some) at standing_parts.1.right)
