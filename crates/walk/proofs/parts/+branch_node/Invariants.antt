-- The node part and the branch part, which call each other: the measure is twice the run's length, and one more for the branch part.
-- A branch that is judged settled goes to a copier; an open one to its node, which goes on to both of its branches as to branches that can be walked.
use Prim.Native.Nat.{◌+◌}
use Rattle.walk.proofs.parts.+branch_node.Given as goal

abbrev pub decreases-node : goal.decreases-node
decreases-node g l = l.run.length + l.run.length

abbrev pub decreases-branch : goal.decreases-branch
decreases-branch g l = l.run.length + l.run.length + 1
