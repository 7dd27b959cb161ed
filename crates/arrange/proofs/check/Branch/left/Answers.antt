-- The numbers of its run are some of the branch's.
use Rattle.arrange.specs.Checked.{known_front}
use Rattle.arrange.specs.Looked.{looked_known}
use Rattle.arrange.proofs.check.Branch.left.Goals as goal

pub invariant_of-result-clause-none_dead : goal.invariant_of-result-clause-none_dead
invariant_of-result-clause-none_dead c = let w = known_front (looked_known c.args.self.now) _ in w.numbers
