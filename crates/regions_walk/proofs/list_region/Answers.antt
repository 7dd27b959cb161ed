-- The walk fills the places, and no count is over the slots, which fit.
use mathlib.Core.Path.{◌∙◌}
use native.Mathlib.Omega.{arith}
use Rattle.walk.specs.Shelf.{counts_at_most}
use Rattle.regions_walk.specs.RegionListed.{region_listed}
use Rattle.regions_walk.proofs.list_region.Goals as goal

pub overflow_cast-tally-2 : goal.overflow_cast-tally-2
overflow_cast-tally-2 c = omega (arith, (counts_at_most c.walk-tally.ensures).visited, c.requires.order_len_bound)

pub returns : goal.returns
returns c =
    let w = region_listed c.walk-tally.ensures in
    record { listed = w.listed; counted = c.copy_from_slice.ensures.after ∙ w.counted }
