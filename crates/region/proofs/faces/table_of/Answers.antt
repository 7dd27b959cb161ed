use mathlib.Core.Path.{◌≡◌, refl}
use Prim.Native.Nat.{◌<◌}
use lib.ListN.{length}
use Rattle.std.proofs.Common.{length-append, length-drop}
use Rattle.std.proofs.lemmas.List.{length-take}
use borrow.Author.Rules.{rules}
use native.Mathlib.Omega.{arith}
use Rattle.region.specs.Table.{tabled_none, row_next, tabled_all}
use Rattle.region.specs.Ranges.{has_normal}
use Rattle.region.proofs.faces.table_of.Goals as goal

pub loop-i-init : goal.loop-i-init
loop-i-init c = (omega arith, tabled_none _ _ _ refl)

pub row_of-row-requires : goal.row_of-row-requires
row_of-row-requires c = has_normal {normals = c.args.normals.now} c.requires.k_bound c.requires.normals_len c.loop-i-test.true

pub loop-i-preserved : goal.loop-i-preserved
loop-i-preserved c =
    let i = c.loop-i.i in
    let four : length c.row_of-row.result ≡ 4 = search rules in
    let known : i < 32 = omega (arith, c.requires.h_bound) in
    let long : length c.loop-i.rows ≡ 128 = search rules in (
      omega arith,
      rw c.copy_from_slice.ensures.after
          (row_next c.args.normals.now i known c.row_of-row.result c.row_of-row.ensures four c.loop-i.rows _ c.loop-i.invariant.1 (simp (length-append, length-take, length-drop) (omega arith))),
    )

pub returns : goal.returns
returns c = tabled_all c.requires.k_bound c.loop-i.invariant.1 (omega (arith, c.loop-i-test.false))
