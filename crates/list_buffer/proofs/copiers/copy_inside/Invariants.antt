-- So far the first `front` numbers of the run are written: each turn writes one more, until none is left.
use Rattle.std.proofs.Common.{◌≡◌}
use Rattle.std.proofs.Math.Seq.{paste}
use Rattle.list_buffer.proofs.copiers.copy_inside.Given as goal

abbrev pub invariant-loop-front : goal.invariant-loop-front
invariant-loop-front l = l.list ≡ paste l.initial.list l.inside l.run l.front
