-- The invariant is what is written so far: each place before i holds the number of the key that it held.
use Rattle.arrange.specs.WrittenInPlace.{MappedTo}
use Rattle.arrange.specs.Placed.{number_of}
use Rattle.arrange.proofs.key.write_numbers.Given as goal

abbrev pub invariant-loop-slot : goal.invariant-loop-slot
invariant-loop-slot l = MappedTo number_of l.initial.run l.run l.slot-index
