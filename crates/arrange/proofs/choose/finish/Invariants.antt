-- The invariant is that the part from i to e holds the number of the place m. Each pass for the least cuts one place off, the last one at m.
use Rattle.arrange.specs.Chosen.{Narrowed}
use Rattle.arrange.proofs.choose.finish.Given as goal

abbrev pub invariant-loop-i : goal.invariant-loop-i
invariant-loop-i l = Narrowed l.initial.run l.run l.m l.i l.e
