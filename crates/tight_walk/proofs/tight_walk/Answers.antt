-- All slots are summarised, so that the root's box can be read; the root is a branch in it, and its walk is the walk of the shelf.
use Rattle.std.proofs.Common.{arith}
use Rattle.tight_walk.specs.TightBoxes.{own_read}
use Rattle.tight_walk.specs.Shelf.{all_summarised, root_goes, shelf_walked, counts_at_most}
use Rattle.tight_walk.proofs.tight_walk.Goals as goal

pub box_in-requires : goal.box_in-requires
box_in-requires c = λ some. own_read (all_summarised c.args.slots.now c.requires.order_len_bound c.requires.summary_value) some

pub walk_down-tally-requires-clause-goes : goal.walk_down-tally-requires-clause-goes
walk_down-tally-requires-clause-goes c =
    let s = c.requires in
    root_goes c.args.slots.now s.order_len_bound s.summary_value (omega arith) (omega arith) c.box_in.ensures

pub prove-unreachable-requires : goal.prove-unreachable-requires
prove-unreachable-requires c =
    let w = shelf_walked c.args.slots.now c.requires.list_len c.walk_down-tally.ensures in
    omega (arith, c.if-prove.true, (counts_at_most w).visited)

pub returns : goal.returns
returns c = shelf_walked c.args.slots.now c.requires.list_len c.walk_down-tally.ensures
