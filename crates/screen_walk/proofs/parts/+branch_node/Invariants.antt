-- The node part and the branch part, which call each other: the measure is twice the run's length, and one more for the branch part.
-- A branch that is judged settled has its answer; an open one goes to its node, which goes on to its left branch, and past that to its right one.
use Prim.Native.Nat.{◌+◌}
use Rattle.screen_walk.proofs.parts.+branch_node.Given as goal

abbrev pub decreases-node : goal.decreases-node
decreases-node l = l.run.length + l.run.length

abbrev pub decreases-branch : goal.decreases-branch
decreases-branch l = l.run.length + l.run.length + 1
