-- The invariant is what is ensured, at the place t that the pass has come to, of the list in which the carried number is stored at a.
use Rattle.std.proofs.Common.{set}
use Rattle.arrange.specs.LeastFirst.{LeastFirst}
use Rattle.arrange.proofs.choose.least_first.Given as goal

abbrev pub invariant-loop-t : goal.invariant-loop-t
invariant-loop-t l = LeastFirst l.initial.run (set l.run l.a l.least) l.a l.e l.t
