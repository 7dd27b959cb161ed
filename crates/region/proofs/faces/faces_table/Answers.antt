-- What was tested of the faces is what the table needs: few dimensions, few faces, and normals of k components each.
use mathlib.Core.Path.{refl}
use Rattle.region.specs.Ranges.{known_table}
use Rattle.region.proofs.faces.faces_table.Goals as goal

pub table_of-requires : goal.table_of-requires
table_of-requires c =
    let w = c.args.faces.now.known in
    record { k_bound = w.few; h_bound = w.tested.many; normals_len = w.tested.normals_size }

pub invariant_of-result : goal.invariant_of-result
invariant_of-result c = record { known = known_table c.args.faces.now.known c.table_of.ensures }

pub returns : goal.returns
returns c = record { k_is = refl; rows = c.table_of.ensures; offsets_are = refl; marks_are = refl }
