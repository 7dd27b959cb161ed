-- Nothing is ensured: the range l to h stays within lo to top and shrinks with each turn.
use Prim.Native.Nat.{◌-◌, ◌≤◌}
use Rattle.arrange.proofs.choose.counted_pivot.Given as goal

abbrev pub invariant-loop-l : goal.invariant-loop-l
invariant-loop-l l = (l.l ≤ l.h) × (l.h ≤ l.top)

abbrev pub decreases-loop-l : goal.decreases-loop-l
decreases-loop-l l = l.h - l.l
