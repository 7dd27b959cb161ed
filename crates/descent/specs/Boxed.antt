-- The box of a branch holds the branch's points, and where there is one its rows are in range; so is it for the boxes of the two branches of its node.
use Rattle.std.specs.Prelude.{List, ℕ, ◌+◌, ◌-◌, ◌/◌, ◌<◌, ℤ}
use Rattle.std.proofs.Common.{mod-eq_of_lt}
use Rattle.terms.specs.Points.{coord}
use Rattle.terms.specs.Box.{Box, left_box, right_box}
use Rattle.theory.specs.Boxes.{In, Held}
use Rattle.theory.specs.BoxLaws.{held_node}
use Rattle.theory.proofs.BoxLaws.{held_left, held_right}
use Rattle.region.specs.Ranges.{BoxRanges, left_ranges, right_ranges}
use Rattle.descent.specs.Slots.{run_of, own_of, run_length, run_node, run_lefts, run_rights}
use Rattle.descent.specs.Standing.{Standing, own_range, standing_parts}

-- The box b of the c slots from slot a on.
pub record Boxed (k : ℕ) (at : ℕ → ℕ → ℤ) (order : List ℕ) (a c : ℕ) (b : Box) : Type 0 where
  pub held : Held k at b (run_of order a c)
  pub ranges : 0 < c → BoxRanges k b

module _ {k : ℕ} {points : List ℤ} {order : List ℕ} {a c s : ℕ} {b : Box} (w : Standing k points order a c s)
    (v : Boxed k (coord k points) order a c b) (some : 0 < c) where
  -- The node's point lies in the box.
  pub boxed_own : In k b (coord k points (own_of order a c))
  boxed_own = rw (run_node order a c w.fits some) at (held_node v.held (rw (run_length order a c w.fits) some))

  pub boxed_left : Boxed k (coord k points) order a (c / 2) (left_box b s (coord k points (own_of order a c) s))
  boxed_left = record {
    held = rw (run_lefts order a c w.fits, run_node order a c w.fits some, mod-eq_of_lt w.splits) at (held_left (standing_parts w some).1 v.held);
    ranges = λ l. left_ranges (v.ranges some) s (own_range w some);
  }

  pub boxed_right : Boxed k (coord k points) order (a + c / 2 + 1) (c - c / 2 - 1) (right_box b s (coord k points (own_of order a c) s))
  boxed_right = record {
    held = rw (run_rights order a c w.fits some, run_node order a c w.fits some, mod-eq_of_lt w.splits) at (held_right (standing_parts w some).1 v.held);
    ranges = λ l. right_ranges (v.ranges some) s (own_range w some);
  }
