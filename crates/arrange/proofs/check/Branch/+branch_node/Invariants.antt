-- The descent, a branch and its node in turn. The measures are 2 c + 1 for a branch of c slots and 2 c for its node.
use Rattle.std.proofs.Common.{◌+◌, ◌*◌, length}
use Rattle.arrange.proofs.check.Branch.+branch_node.Given as goal

abbrev pub decreases-branch : goal.decreases-branch
decreases-branch l = 2 * length l.self.now.order.now + 1

abbrev pub decreases-node : goal.decreases-node
decreases-node l = 2 * length l.self.now.order.now
