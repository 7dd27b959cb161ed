-- `lowest_below` meets its contract. After i turns the point is below none of the first i faces; so the first that it is below is the lowest.
use mathlib.Core.Path.{◌≡◌}
use mathlib.Core.Bool.{false}
use Prim.Native.Nat.{ℕ, ◌≤◌, ◌<◌}
use lib.ListN.{length}
use Rattle.terms.specs.Points.{lone}
use Rattle.terms.specs.Region.{is_below}
use Rattle.region.specs.Told.{told}
use Rattle.region.proofs.lowest.lowest_below.Given as goal

abbrev pub invariant-loop-i : goal.invariant-loop-i
invariant-loop-i l = (l.i ≤ length l.table.offsets.now) × ((s : ℕ) → s < l.i → is_below (told l.table) (lone l.x) s ≡ false)
