-- The invariant is that the part from a to e holds the number of the place m, and that lo and top lie as close as the passes so far leave them.
-- A pass by a pivot cuts the part and the range of the pivots in two and keeps one half of each; the passes left of the 64 are the measure.
use Prim.Native.Nat.{◌-◌}
use Rattle.arrange.specs.Chosen.{Narrowed}
use Rattle.arrange.specs.Passes.{Passed}
use Rattle.arrange.proofs.choose.choose.Given as goal

abbrev pub invariant-loop-e : goal.invariant-loop-e
invariant-loop-e l = Narrowed l.initial.run l.run l.m l.a l.e × Passed l.lo l.top l.pass

abbrev pub decreases-loop-e : goal.decreases-loop-e
decreases-loop-e l = 64 - l.pass
