-- The measure is the run's length. The node's number is placed, and each half is a part of what is left then, shorter than the run; what is
-- asked of the run holds of its parts, and the two trees that come back make one with the node.
use lib.ListN.{length}
use Rattle.arrange.proofs.build.+arrange.Given as goal

abbrev pub decreases-arrange : goal.decreases-arrange
decreases-arrange l = length l.run.now
