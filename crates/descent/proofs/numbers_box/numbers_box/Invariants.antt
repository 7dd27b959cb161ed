-- After j lanes the first j lanes are dealt to k places. Since 24 is a multiple of k, all coordinates are then dealt to k places, one for each dimension.
use Prim.Native.Nat.{◌-◌, ◌%◌, ◌≤◌, ◌<◌}
use Rattle.terms.specs.Points.{lone}
use Rattle.descent.specs.NumbersBox.{Dealt}
use Rattle.descent.proofs.numbers_box.numbers_box.Given as goal

abbrev pub invariant-loop-j : goal.invariant-loop-j
invariant-loop-j l = (l.j ≤ 24) × (l.j % l.k < l.k) × Dealt l.k (lone l.least) (lone l.greatest) l.j l.low l.high

abbrev pub decreases-loop-j : goal.decreases-loop-j
decreases-loop-j l = 24 - l.j
