-- So far the first `back` numbers of the run are written backwards: each turn writes one more, until none is left.
use Rattle.std.proofs.Common.{◌≡◌}
use Rattle.list_buffer.specs.Filled.{paste_back}
use Rattle.list_buffer.proofs.copiers.copy_outside.Given as goal

abbrev pub invariant-loop-back : goal.invariant-loop-back
invariant-loop-back l = l.list ≡ paste_back l.initial.list l.end l.run l.back
