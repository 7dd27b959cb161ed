-- The invariant is what is written so far: each place before p holds its own number.
use Rattle.arrange.specs.WrittenInPlace.{WrittenTo}
use Rattle.arrange.proofs.build.fill.Given as goal

abbrev pub invariant-loop-p : goal.invariant-loop-p
invariant-loop-p l = WrittenTo (λ i. i) l.initial.order l.order l.p
