-- `row_of` meets its contract. After d turns those of the first d places that are below k are the row's, and the others are 0.
use Prim.Native.Nat.{◌-◌}
use Rattle.region.specs.FourDimensions.{FilledTo}
use Rattle.region.specs.Table.{normal_of}
use Rattle.region.proofs.faces.row_of.Given as goal

abbrev pub invariant-loop-d : goal.invariant-loop-d
invariant-loop-d l = FilledTo l.k (normal_of l.k l.numbers l.i) l.d l.row

abbrev pub decreases-loop-d : goal.decreases-loop-d
decreases-loop-d l = 4 - l.d
