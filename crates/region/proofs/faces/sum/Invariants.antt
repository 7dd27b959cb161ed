-- `sum` meets its contract. After d turns the total is the sum of the first d products, and each such sum fits; those from k on add nothing.
use mathlib.Core.Path.{◌≡◌}
use Prim.Native.Nat.{◌≤◌, ◌-◌}
use Rattle.whole.specs.IndexedSum.{sum_to}
use Rattle.terms.specs.Points.{lone}
use Rattle.region.specs.Table.{products}
use Rattle.region.proofs.faces.sum.Given as goal

abbrev pub invariant-loop-d : goal.invariant-loop-d
invariant-loop-d l = (l.d ≤ 4) × (l.total ≡ sum_to l.d (products (lone l.row) (lone l.x)))

abbrev pub decreases-loop-d : goal.decreases-loop-d
decreases-loop-d l = 4 - l.d
