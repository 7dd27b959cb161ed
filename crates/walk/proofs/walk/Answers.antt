-- The root is a branch in its branch box, and its walk is the walk of the shelf.
use Rattle.descent.specs.Shelf.{rooted}
use Rattle.walk.specs.Shelf.{root_goes, shelf_walked}
use Rattle.walk.proofs.walk.Goals as goal

pub walk_down-requires-clause-goes : goal.walk_down-requires-clause-goes
walk_down-requires-clause-goes c =
    let e = c.root_run.ensures in
    root_goes (rw e.in_box (rooted c.args.shelf.now)) e.starts e.slots e.splits

pub returns : goal.returns
returns c =
    let e = c.root_run.ensures in
    let w = rw (e.starts, e.slots, e.splits, e.in_box) at c.walk_down.ensures in
    shelf_walked c.requires.same_k c.args.shelf.now.alike c.requires.list_len w
