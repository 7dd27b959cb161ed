-- The shelf of a tested stock has its root.
use Rattle.descent.specs.Root.{shelved_known, shelved_tree}
use Rattle.descent.proofs.root.shelf_of.Goals as goal

pub invariant_of-result : goal.invariant_of-result
invariant_of-result c =
    let w = c.requires in
    record { some = w.tested.some; known = shelved_known w; tree = shelved_tree w; alike = c.root_box-rows.ensures.alike }
