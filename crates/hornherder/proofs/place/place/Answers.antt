-- A refusal is the answer; where all was passed, what is measured of the one point, read into a value, is.
use Rattle.std.proofs.Common.{refl, arith}
use Rattle.terms.specs.LentValues.{lent_faces}
use Rattle.terms.specs.RefusalNumbers.{number_is, handed_on}
use Rattle.descent.specs.Points.{lone_coord}
use Rattle.hornherder.specs.TestedRun.{faces_known}
use Rattle.hornherder.specs.PlaceOutcome.{place_tested, place_refused, place_measured}
use Rattle.hornherder.proofs.place.place.Goals as goal

pub returns-in_err-test_place : goal.returns-in_err-test_place
returns-in_err-test_place c = rw (handed_on _ c.from_residual.ensures) (place_refused _ _ _ c.in_err-test_place.ensures (number_is _))

pub point_at-x-requires : goal.point_at-x-requires
point_at-x-requires c =
    let t = place_tested c.args.k c.args.point.now (lent_faces c.args.faces.now) c.in_ok-test_place.ensures refl in
    record { few = t.dimension.1; room = omega (arith, t.size); ranges = rw lone_coord t.ranges }

pub tested_faces-requires : goal.tested_faces-requires
tested_faces-requires c = let t = place_tested c.args.k c.args.point.now (lent_faces c.args.faces.now) c.in_ok-test_place.ensures refl in faces_known c.args.k (lent_faces c.args.faces.now) t.dimension.1 t.faced

pub measure-requires : goal.measure-requires
measure-requires c = rw c.tested_faces.ensures.k_is c.point_at-x.ensures.ranges

pub returns : goal.returns
returns c =
    let f = c.tested_faces.ensures in
    let measured = rw (f.k_is, f.normals_are, f.offsets_are, f.marks_are) at c.measure.ensures in
    place_measured _ _ _ c.in_ok-test_place.ensures refl c.point_at-x.ensures _ measured
