-- `inside_live` meets its contract. After t turns the point is above the first t live faces; a point in the box that is above all live faces is inside.
use mathlib.Core.Path.{◌≡◌}
use mathlib.Core.Bool.{true}
use Prim.Native.Nat.{ℕ, ◌<◌}
use lib.ListN.{get_or}
use Rattle.terms.specs.Points.{lone}
use Rattle.terms.specs.Region.{above}
use Rattle.region.specs.Told.{told}
use Rattle.region.proofs.live.inside_live.Given as goal

abbrev pub invariant-loop-f : goal.invariant-loop-f
invariant-loop-f l = (s : ℕ) → s < l.f-index → above (told l.table) (get_or l.live s 0) (lone l.x) ≡ true
