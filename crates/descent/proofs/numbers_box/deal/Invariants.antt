-- After j turns j coordinates from place `from` on are dealt: each turn deals one more, to lane j.
use Prim.Native.Nat.{◌+◌, ◌-◌, ◌≤◌}
use Rattle.terms.specs.Points.{lone}
use Rattle.descent.specs.NumbersBox.{Dealt}
use Rattle.descent.proofs.numbers_box.deal.Given as goal

abbrev pub invariant-loop-j : goal.invariant-loop-j
invariant-loop-j l = (l.j ≤ l.count) × Dealt 24 (lone l.points) (lone l.points) (l.from + l.j) l.least l.greatest

abbrev pub decreases-loop-j : goal.decreases-loop-j
decreases-loop-j l = l.count - l.j
