-- `table_of` meets its contract. After i turns the first i rows stand in the table, by one copy more each turn.
use Prim.Native.Nat.{◌*◌, ◌≤◌}
use Rattle.region.specs.Table.{TabledTo}
use Rattle.region.proofs.faces.table_of.Given as goal

abbrev pub invariant-loop-i : goal.invariant-loop-i
invariant-loop-i l = (l.i ≤ l.h) × TabledTo l.k l.normals (l.i * 4) l.rows
