-- A place that is not three long is refused, and so is a reading that is not in range; else what the reading gives is the answer.
use Rattle.std.proofs.Common.{refl}
use Rattle.terms.specs.RefusalNumbers.{number_is, handed_on}
use Rattle.hornherder.specs.PointOutcome.{point_sized, point_refused, point_given}
use Rattle.hornherder.proofs.point.point_from.Goals as goal

pub returns-in_err-test_length : goal.returns-in_err-test_length
returns-in_err-test_length c = rw (handed_on _ c.from_residual.ensures) (point_refused _ _ c.in_err-test_length.ensures (number_is _))

pub returns-in_err-point : goal.returns-in_err-point
returns-in_err-point c = rw (handed_on _ c.from_residual-in_err-point.ensures) (point_given _ _ c.in_ok-test_length.ensures refl c.in_err-point.ensures refl refl)

pub write_point-requires : goal.write_point-requires
write_point-requires c = point_sized c.args.place.now c.in_ok-test_length.ensures refl

pub returns-in-Some : goal.returns-in-Some
returns-in-Some c = point_given _ _ c.in_ok-test_length.ensures refl (rw c.in-Some.is at c.in_ok-point.ensures) refl c.write_point.ensures

pub returns-in-None : goal.returns-in-None
returns-in-None c = point_given _ _ c.in_ok-test_length.ensures refl (rw c.in-None.is at c.in_ok-point.ensures) refl refl
