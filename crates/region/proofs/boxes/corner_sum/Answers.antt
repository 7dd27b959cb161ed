-- `corner_sum` meets its contract: it is the sum at the corner that the signs choose, whose first k places are those of the words.
use mathlib.Core.Path.{◌∙◌}
use Rattle.terms.specs.Points.{lone}
use Rattle.theory.specs.PointsAlike.{same_point_fewer, ranges_same_point, sum_same_point}
use Rattle.region.specs.Corners.{corner_ranges}
use Rattle.region.proofs.Signed.{back64}
use Rattle.region.proofs.boxes.corner_sum.Goals as goal

pub sum-requires : goal.sum-requires
sum-requires c =
    let w = c.requires in
    let same = same_point_fewer w.normal.few c.corner.ensures in
    record { coordinates = ranges_same_point same (corner_ranges w.first_coordinates w.second_coordinates (lone c.args.row)); normal = w.normal }

pub returns : goal.returns
returns c =
    let same = same_point_fewer c.requires.normal.few c.corner.ensures in
    back64 c.sum.type_inv ∙ c.sum.ensures ∙ sum_same_point same (lone c.args.row)
