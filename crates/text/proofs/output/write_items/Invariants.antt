-- The invariant: the numbers in front of the index were put.
use Rattle.text.specs.Printing.{PutItems}
use Rattle.text.proofs.output.write_items.Given as goal

abbrev pub invariant-loop-number : goal.invariant-loop-number
invariant-loop-number l = PutItems l.fn.out l.out 0 l.next l.number-index l.numbers
