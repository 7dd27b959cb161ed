-- The root is a branch in which the number can be sought, and what is found there by the table of the faces is the reason of the shelf.
use mathlib.Core.Path.{◌∙◌}
use Rattle.terms.specs.Box.{box_of}
use Rattle.descent.specs.Faced.{faced_root}
use Rattle.descent.specs.Shelf.{rooted}
use Rattle.reason.specs.Shelf.{number_known, sought_root, found_root}
use Rattle.reason.proofs.reason.Goals as goal

pub point_at-x-requires : goal.point_at-x-requires
point_at-x-requires c = number_known (rooted c.args.shelf.now) c.requires.in_run

pub descend-requires : goal.descend-requires
descend-requires c =
    let p = c.requires in
    let s = c.args.shelf.now in
    let t = c.faces_table-table.ensures in
    let r = c.root_run.ensures in
    let faced = faced_root t p.same_k c.all_faces-live.ensures (box_of s.rows) in
    record {
      same_k = t.k_is ∙ p.same_k;
      sought = rw (r.starts, r.slots, r.splits, r.in_box) (sought_root (rooted s) p.in_run faced c.point_at-x.ensures);
    }

pub returns : goal.returns
returns c =
    let p = c.requires in
    let t = c.faces_table-table.ensures in
    let r = c.root_run.ensures in
    let found = rw (r.starts, r.slots, r.splits, r.in_box, t.offsets_are, t.marks_are) at c.descend.ensures in
    rw p.same_k (found_root (rooted c.args.shelf.now) p.in_run _ _ (rw p.same_k at t.rows) found)
