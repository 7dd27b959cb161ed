-- `wholly_below` meets its contract: the opposite corner is asked, and `above` says the rest.
use mathlib.Core.Path.{◌≡◌, refl, ap, ◌∙◌}
use mathlib.Core.Bool.{not}
use lib.IntN.{ℤ, ◌-ℤ◌}
use borrow.Author.Rules.{rules}
use Rattle.terms.specs.Points.{lone}
use Rattle.terms.specs.Box.{box_of}
use Rattle.terms.specs.Region.{reach, along}
use Rattle.region.specs.Above.{margin_above}
use Rattle.region.specs.Corners.{corner_ranges}
use Rattle.region.specs.Table.{sum_same_corner}
use Rattle.region.specs.Ranges.{row_normal, row_same, abs_sum}
use Rattle.region.specs.Told.{told}
use Rattle.region.proofs.Signed.{back64}
use Rattle.region.proofs.boxes.wholly_below.Goals as goal

pub corner_sum-reached-requires : goal.corner_sum-reached-requires
corner_sum-reached-requires c =
    let w = c.args.table.now.known in
    record { first_coordinates = search rules; second_coordinates = search rules; normal = row_normal (w.each _ c.requires.known) c.row_at.ensures }

pub margin-requires : goal.margin-requires
margin-requires c =
    let w = c.args.table.now.known in
    let normal = row_normal (w.each _ c.requires.known) c.row_at.ensures in
    record {
      sum_bound = rw (back64 c.corner_sum-reached.type_inv, c.corner_sum-reached.ensures) (abs_sum normal (corner_ranges (search rules) (search rules) (lone c.row_at.result)));
      has_offset = (w.marked _ c.requires.known).offset;
    }

pub above-requires : goal.above-requires
above-requires c = (c.args.table.now.known.marked _ c.requires.known).mark

pub returns : goal.returns
returns c =
    let w = c.args.table.now.known in
    let i = c.args.i in
    let b = box_of c.args.rows in
    let g = told c.args.table.now in
    let same = row_same (w.each i c.requires.known) c.row_at.ensures in
    let reached : c.corner_sum-reached.result ≡ reach g i (along g i b) = c.corner_sum-reached.ensures ∙ sum_same_corner same b.high b.low in
    let margin = back64 c.margin.type_inv ∙ c.margin.ensures ∙ ap (λ (v : ℤ). v -ℤ g.offset i) (back64 c.corner_sum-reached.type_inv ∙ reached) in
    ap not (margin_above g i (reach g i (along g i b)) (c.above.ensures g refl) margin)
