-- The measure is the number of slots. A wrong share of a branch is a wrong summary; with both right, the box between them tells.
use lib.ListN.{length}
use Rattle.summary.proofs.+is_summary.Given as goal

abbrev pub decreases-is_summary : goal.decreases-is_summary
decreases-is_summary l = length l.slots.now.order.now
