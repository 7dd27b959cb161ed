-- The way down to a number, which calls itself on ever shorter runs: the measure is the run's length. A settled branch has its reason; an open one goes to its
-- node's own test or to the branch on the number's side.
use Rattle.reason.proofs.way.+descend.Given as goal

abbrev pub decreases-descend : goal.decreases-descend
decreases-descend l = l.run.length
