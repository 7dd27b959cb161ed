-- After t rounds the first 24 * t coordinates are dealt; the rest is dealt once more.
use Prim.Native.Nat.{◌-◌, ◌*◌, ◌≤◌}
use Rattle.terms.specs.Points.{lone}
use Rattle.descent.specs.NumbersBox.{Dealt}
use Rattle.descent.proofs.numbers_box.deal_all.Given as goal

abbrev pub invariant-loop-t : goal.invariant-loop-t
invariant-loop-t l = (l.t ≤ l.rounds) × Dealt 24 (lone l.points) (lone l.points) (24 * l.t) l.lanes.least l.lanes.greatest

abbrev pub decreases-loop-t : goal.decreases-loop-t
decreases-loop-t l = l.rounds - l.t
