-- The numbers of its run are some of the branch's.
use Rattle.std.proofs.Common.{◌+◌}
use Rattle.arrange.specs.Checked.{known_front, known_back}
use Rattle.arrange.specs.Looked.{looked_known}
use Rattle.arrange.proofs.check.Branch.right.Goals as goal

pub invariant_of-result-clause-none_dead : goal.invariant_of-result-clause-none_dead
invariant_of-result-clause-none_dead c = let w = known_front (known_back (looked_known c.args.self.now) (c.args.h + 1)) _ in w.numbers
