-- `point_margin` meets its contract: the row is the table's, and `margin` says the rest.
use mathlib.Core.Path.{ap, ◌∙◌}
use lib.ListN.{get_or}
use lib.IntN.{ℤ, pos, ◌-ℤ◌}
use borrow.Author.Rules.{sfits_of}
use mir.Syntax.{w64}
use mir.Facts.{to_z-of_z}
use Rattle.terms.specs.Points.{lone}
use Rattle.region.specs.Table.{sum_same_normal}
use Rattle.region.specs.Ranges.{row_normal, row_same, abs_sum}
use Rattle.region.proofs.faces.point_margin.Goals as goal

pub row_at-requires : goal.row_at-requires
row_at-requires c = c.requires.has_margin.few

pub sum-requires : goal.sum-requires
sum-requires c =
    record { coordinates = c.requires.coordinates; normal = row_normal c.requires.has_margin.normal c.row_at.ensures }

pub margin-requires : goal.margin-requires
margin-requires c =
    record { sum_bound = rw (to_z-of_z (sfits_of {w = w64} c.sum.type_inv), c.sum.ensures) (abs_sum (row_normal c.requires.has_margin.normal c.row_at.ensures) c.requires.coordinates); has_offset = c.requires.has_margin.offset }

pub returns : goal.returns
returns c marks =
    let a = c.args in
    let same = row_same c.requires.has_margin.normal c.row_at.ensures in
    to_z-of_z (sfits_of {w = w64} c.margin.type_inv)
    ∙ c.margin.ensures
    ∙ ap (λ (v : ℤ). v -ℤ get_or a.offsets.now a.i (pos 0))
    (to_z-of_z (sfits_of {w = w64} c.sum.type_inv) ∙ c.sum.ensures ∙ sum_same_normal same (lone a.x))
