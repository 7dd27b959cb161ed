-- The invariant is what is ensured, at the place t that the pass has come to: the places before r hold numbers below the pivot, those up to t do not.
use Rattle.arrange.specs.Parted.{Parted}
use Rattle.arrange.proofs.choose.partition.Given as goal

abbrev pub invariant-loop-t : goal.invariant-loop-t
invariant-loop-t l = Parted l.initial.run l.run l.a l.e l.pivot l.t l.r
