-- The measure is the number of slots. Both shares come back as the summaries of the branches, and with the box between them they are the summary of the run.
use lib.ListN.{length}
use Rattle.summary.proofs.+fill.Given as goal

abbrev pub decreases-fill : goal.decreases-fill
decreases-fill l = length l.slots.now.order.now
