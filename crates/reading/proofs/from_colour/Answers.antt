-- Where each value gives a coordinate they are the point; where one is refused the reading is, since it is not in range throughout.
use Rattle.std.proofs.Common.{◌≡◌, ◌∙◌, rules, to_z, of_z, w32}
use Rattle.terms.specs.RefusalNumbers.{handed_on}
use Rattle.terms.specs.Tests.{every}
use Rattle.terms.specs.Reading.{gives}
use Rattle.reading.specs.Converted.{coordinate_made, coordinate_refused, colour_ranges, colour_given}
use Rattle.reading.proofs.from_colour.Goals as goal

pub returns-in_err-tested_coordinate : goal.returns-in_err-tested_coordinate
unfolding gives every
returns-in_err-tested_coordinate c =
    let a = coordinate_refused _ c.in_err-tested_coordinate.ensures in
    rw (handed_on _ c.from_residual.ensures, a.1, a.0)

pub returns-in_err-tested_coordinate-2 : goal.returns-in_err-tested_coordinate-2
unfolding gives every
returns-in_err-tested_coordinate-2 c =
    let a = coordinate_made _ c.in_ok-tested_coordinate.ensures in
    let b = coordinate_refused _ c.in_err-tested_coordinate-2.ensures in
    rw (handed_on _ c.from_residual-in_err-tested_coordinate-2.ensures, b.1, a.0, b.0)

pub returns-in_err-tested_coordinate-3 : goal.returns-in_err-tested_coordinate-3
unfolding gives every
returns-in_err-tested_coordinate-3 c =
    let a = coordinate_made _ c.in_ok-tested_coordinate.ensures in
    let b = coordinate_made _ c.in_ok-tested_coordinate-2.ensures in
    let d = coordinate_refused _ c.in_err-tested_coordinate-3.ensures in
    rw (handed_on _ c.from_residual-in_err-tested_coordinate-3.ensures, d.1, a.0, b.0, d.0)

pub returns : goal.returns
returns c =
    let a = coordinate_made _ c.in_ok-tested_coordinate.ensures in
    let b = coordinate_made _ c.in_ok-tested_coordinate-2.ensures in
    let d = coordinate_made _ c.in_ok-tested_coordinate-3.ensures in
    let x : to_z w32 (of_z w32 c.in_ok-tested_coordinate.field-0) ≡ c.in_ok-tested_coordinate.field-0 = search rules in
    let y : to_z w32 (of_z w32 c.in_ok-tested_coordinate-2.field-0) ≡ c.in_ok-tested_coordinate-2.field-0 = search rules in
    let z : to_z w32 (of_z w32 c.in_ok-tested_coordinate-3.field-0) ≡ c.in_ok-tested_coordinate-3.field-0 = search rules in
    colour_given _ (colour_ranges _ a.0 b.0 d.0) (x ∙ a.1) (y ∙ b.1) (z ∙ d.1)
