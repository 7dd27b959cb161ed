-- The invariant is that region r is reached: those before it are listed, and its faces start here. What was tested gives it its parts of the slices and room in
-- both buffers, its parts are its faces, and its own places and counts come back after those before it.
use mathlib.Core.Path.{◌≡◌}
use lib.ListN.{length}
use Rattle.terms.specs.Points.{coord}
use Rattle.regions_walk.specs.Joined.{regions_in}
use Rattle.regions_walk.specs.RegionsListed.{Reached}
use Rattle.regions_walk.proofs.walk_regions.Given as goal

abbrev pub invariant-loop-r : goal.invariant-loop-r
invariant-loop-r l =
    (l.r-end ≡ length l.regions.face_counts.now) × Reached l.regions.k (regions_in l.regions) (coord l.shelf.k l.shelf.points.now) l.shelf.order.now l.initial.lists l.initial.counts l.r l.face l.lists l.counts
