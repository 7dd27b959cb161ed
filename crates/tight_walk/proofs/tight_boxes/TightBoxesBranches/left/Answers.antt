-- The left branch is summarised, so that its box can be read.
use Rattle.tight_walk.specs.TightBoxes.{own_read, summarised_left}
use Rattle.tight_walk.proofs.tight_boxes.TightBoxesBranches.left.Goals as goal

pub box_in-requires : goal.box_in-requires
box_in-requires c = λ some. own_read (summarised_left c.requires.goes.summarised c.requires.length_nonzero) some
