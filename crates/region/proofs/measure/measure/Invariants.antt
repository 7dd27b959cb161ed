-- `measure` meets its contract. After i turns the first i faces are measured; the next one leaves the point above all or not, and leads or does not.
use Prim.Native.Nat.{◌≤◌}
use lib.ListN.{length}
use Rattle.terms.specs.Points.{lone}
use Rattle.region.specs.Told.{region_of}
use Rattle.region.specs.Measured.{Measuring}
use Rattle.region.proofs.measure.measure.Given as goal

abbrev pub invariant-loop-i : goal.invariant-loop-i
invariant-loop-i l = (l.i ≤ length l.faces.offsets.now) × Measuring (region_of l.faces) (lone l.x) l.i l.inside l.least
