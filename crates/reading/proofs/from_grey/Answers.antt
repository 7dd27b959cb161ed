-- Where the value gives a coordinate that is the point's first number; where it is refused the reading is.
use Rattle.std.proofs.Common.{◌≡◌, refl, sym, ◌∙◌, rules, to_z, of_z, w32}
use Rattle.terms.specs.RefusalNumbers.{handed_on}
use Rattle.terms.specs.Tests.{every}
use Rattle.terms.specs.Reading.{gives}
use Rattle.reading.specs.Converted.{coordinate_made, coordinate_refused, grey_tested, grey_given}
use Rattle.reading.proofs.from_grey.Goals as goal

pub returns-in_err-tested_coordinate : goal.returns-in_err-tested_coordinate
unfolding gives every
returns-in_err-tested_coordinate c =
    let a = coordinate_refused _ c.in_err-tested_coordinate.ensures in
    rw (handed_on _ c.from_residual.ensures, a.1, a.0)

pub returns : goal.returns
returns c =
    let a = coordinate_made _ c.in_ok-tested_coordinate.ensures in
    let x : to_z w32 (of_z w32 c.in_ok-tested_coordinate.field-0) ≡ c.in_ok-tested_coordinate.field-0 = search rules in
    grey_given _ (sym (grey_tested _ refl) ∙ a.0) (x ∙ a.1) refl refl
