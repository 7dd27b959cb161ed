-- The root is a branch that can be screened, and its screen by the table of the faces is the screen of the shelf.
use mathlib.Core.Path.{◌∙◌}
use Rattle.terms.specs.Box.{box_of}
use Rattle.descent.specs.Faced.{faced_root}
use Rattle.descent.specs.Shelf.{rooted}
use Rattle.screen_walk.specs.Shelf.{screenable_root, shelf_screened, screened_by_faces}
use Rattle.screen_walk.proofs.screen.Goals as goal

pub branch-shelf-requires : goal.branch-shelf-requires
branch-shelf-requires c =
    let s = c.args.shelf.now in
    let t = c.faces_table-table.ensures in
    let r = c.root_run.ensures in
    let faced = faced_root t c.requires c.all_faces-live.ensures (box_of s.rows) in
    record {
      same_k = t.k_is ∙ c.requires;
      screenable = rw (r.starts, r.slots, r.splits, r.in_box) (screenable_root (rooted s) faced);
    }

pub returns : goal.returns
returns c =
    let t = c.faces_table-table.ensures in
    let r = c.root_run.ensures in
    let found = rw (r.starts, r.slots, r.splits, r.in_box, t.offsets_are, t.marks_are) at c.branch-shelf.ensures in
    rw c.requires (screened_by_faces _ _ _ _ (rw c.requires at t.rows) (shelf_screened c.args.shelf.now.alike found))
