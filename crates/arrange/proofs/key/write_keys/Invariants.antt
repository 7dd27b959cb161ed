-- The invariant is what is written so far: each place before i holds the key of the number that it held.
use Rattle.arrange.specs.WrittenInPlace.{MappedTo}
use Rattle.arrange.specs.Key.{key_of}
use Rattle.arrange.proofs.key.write_keys.Given as goal

abbrev pub invariant-loop-slot : goal.invariant-loop-slot
invariant-loop-slot l = MappedTo (key_of l.stock.k l.stock.points.now l.s) l.initial.run l.run l.slot-index
