-- The comparison is the test.
use Rattle.std.proofs.Common.{not, ap, eq-eqb, ne_eqb}
use Rattle.hornherder.specs.First.{first_none, first_holds, first_passes}
use Rattle.hornherder.proofs.refuse.test_length.Goals as goal

pub returns-then-points-size : goal.returns-then-points-size
returns-then-points-size c = first_holds (ap not (ne_eqb _ _ c.if-points-size.true))

pub returns : goal.returns
returns c = first_passes (ap not (eq-eqb _ _ c.if-points-size.false)) first_none
