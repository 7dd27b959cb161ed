use mathlib.Core.Path.{◌≡◌, refl, ◌∙◌}
use Prim.Native.Nat.{◌+◌}
use native.Mathlib.Omega.{arith}
use lib.ListN.{get_or}
use lib.IntN.{pos, ◌+ℤ◌}
use borrow.Author.Rules.{rules}
use mir.Syntax.{w32, w64}
use mir.Val.{SFits, to_z}
use mir.Facts.{to_z-of_z}
use Rattle.whole.proofs.Fits.{wide_back}
use Rattle.whole.specs.IndexedSum.{sum_to}
use Rattle.terms.specs.Points.{lone}
use Rattle.region.specs.Table.{products}
use Rattle.region.specs.Ranges.{product_fits, sum_fits, sum_of_four}
use Rattle.region.proofs.Sums.{sum_with}
use Rattle.region.proofs.faces.sum.Goals as goal

pub loop-d-init : goal.loop-d-init
unfolding sum_to
loop-d-init c = (omega arith, refl)

pub overflow_mul-total : goal.overflow_mul-total
overflow_mul-total c =
    let component : SFits w32 (get_or c.args.row c.loop-d.d (pos 0)) = search rules in
    let coordinate : SFits w32 (get_or c.args.x c.loop-d.d (pos 0)) = search rules in
    rw (wide_back w64 tt component, wide_back w64 tt coordinate)
    (product_fits c.requires.normal c.requires.coordinates c.loop-d.d c.loop-d-test.true)

pub overflow_add-total : goal.overflow_add-total
overflow_add-total c =
    let component : SFits w32 (get_or c.args.row c.loop-d.d (pos 0)) = search rules in
    let coordinate : SFits w32 (get_or c.args.x c.loop-d.d (pos 0)) = search rules in
    let product = product_fits c.requires.normal c.requires.coordinates c.loop-d.d c.loop-d-test.true in
    rw (wide_back w64 tt component, wide_back w64 tt coordinate, to_z-of_z product, sum_with c.loop-d.d (to_z w64 c.loop-d.total-bits) (products (lone c.args.row) (lone c.args.x)) c.loop-d.invariant.1)
    (sum_fits c.requires.normal c.requires.coordinates (c.loop-d.d + 1) (omega (arith, c.loop-d-test.true)))

pub loop-d-preserved : goal.loop-d-preserved
loop-d-preserved c =
    let component : SFits w32 (get_or c.args.row c.loop-d.d (pos 0)) = search rules in
    let coordinate : SFits w32 (get_or c.args.x c.loop-d.d (pos 0)) = search rules in
    let product = product_fits c.requires.normal c.requires.coordinates c.loop-d.d c.loop-d-test.true in
    let more = sum_with c.loop-d.d (to_z w64 c.loop-d.total-bits) (products (lone c.args.row) (lone c.args.x)) c.loop-d.invariant.1 in
    let fits : SFits w64 (to_z w64 c.loop-d.total-bits +ℤ products (lone c.args.row) (lone c.args.x) c.loop-d.d) = rw more (sum_fits c.requires.normal c.requires.coordinates (c.loop-d.d + 1) (omega (arith, c.loop-d-test.true))) in
    (omega (arith, c.loop-d-test.true), rw (wide_back w64 tt component, wide_back w64 tt coordinate, to_z-of_z product, to_z-of_z fits) more)

pub returns : goal.returns
returns c =
    let four : c.loop-d.d ≡ 4 = omega (arith, c.loop-d.invariant.0, c.loop-d-test.false) in
    rw four at c.loop-d.invariant.1 ∙ sum_of_four c.requires.normal c.requires.coordinates
