use mathlib.Core.Path.{◌≡◌, refl, ap, ◌∙◌}
use native.Mathlib.Omega.{arith}
use lib.ListN.{length}
use lib.IntN.{ℤ, ◌-ℤ◌}
use mir.Syntax.{w64}
use mir.Val.{to_z, of_z}
use Rattle.terms.specs.Points.{lone}
use Rattle.terms.specs.Region.{reach, above}
use Rattle.terms.specs.Margin as words
use Rattle.region.specs.Above.{margin_above}
use Rattle.region.specs.Table.{sum_same_normal}
use Rattle.region.specs.Ranges.{has_normal, known_row, known_marked, abs_sum}
use Rattle.region.specs.Told.{region_of}
use Rattle.region.specs.Measured.{measuring_none, measuring_leads, measuring_trails, measuring_done}
use Rattle.region.proofs.Signed.{back64}
use Rattle.region.proofs.measure.measure.Goals as goal
use Rattle.region.proofs.measure.measure.Goals.{then-leads, else-leads}

pub loop-i-init : goal.loop-i-init
loop-i-init c = (omega arith, measuring_none _ _)

pub row_of-row-requires : goal.row_of-row-requires
row_of-row-requires c =
    let w = c.args.faces.now.known in
    has_normal {normals = c.args.faces.now.normals.now} w.few w.tested.normals_size c.loop-i-test.true

pub sum-requires : goal.sum-requires
sum-requires c =
    record { coordinates = c.requires; normal = known_row c.args.faces.now.known c.loop-i-test.true c.row_of-row.ensures }

pub margin-own-requires : goal.margin-own-requires
margin-own-requires c =
    let w = c.args.faces.now.known in
    let l = c.loop-i-test.true in
    record {
      sum_bound = rw (back64 c.sum.type_inv, c.sum.ensures) (abs_sum (known_row w l c.row_of-row.ensures) c.requires);
      has_offset = (known_marked w l).offset;
    }

pub above-inside-requires : goal.above-inside-requires
above-inside-requires c = (known_marked c.args.faces.now.known c.loop-i-test.true).mark

pub loop-i-preserved : goal.loop-i-preserved
loop-i-preserved c =
    let l = c.loop-i in
    let x = lone c.args.x in
    let g = region_of c.args.faces.now in
    let own : to_z w64 (of_z w64 c.margin-own.result) ≡ words.margin g l.i x =
    back64 c.margin-own.type_inv
    ∙ c.margin-own.ensures
    ∙ ap (λ (v : ℤ). v -ℤ g.offset l.i) (back64 c.sum.type_inv ∙ c.sum.ensures ∙ sum_same_normal c.row_of-row.ensures.same x) in
    let told : c.above-inside.result ≡ above g l.i x = margin_above g l.i (reach g l.i x) (c.above-inside.ensures g refl) own in
    let answer = rw own at c.leads.ensures in (
      omega (arith, c.loop-i-test.true),
      elim c.if-leads.branch [
        | then-leads z ↦ rw (z.least-is, own) (measuring_leads l.invariant.1 told refl (rw z.if-leads.true at answer))
        | else-leads z ↦ rw z.least-is (measuring_trails l.invariant.1 told refl (rw z.if-leads.false at answer))
      ],
    )

pub returns : goal.returns
returns c =
    let l = c.loop-i in
    let e : l.i ≡ length c.args.faces.now.offsets.now = omega arith in
    measuring_done (rw e at l.invariant.1)
