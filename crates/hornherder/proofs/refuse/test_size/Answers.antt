-- The comparison is the test.
use Rattle.std.proofs.Common.{lt-ltb, le-ltb}
use Rattle.hornherder.specs.First.{first_none, first_holds, first_passes}
use Rattle.hornherder.proofs.refuse.test_size.Goals as goal

pub returns-then-n-gt65535 : goal.returns-then-n-gt65535
returns-then-n-gt65535 c = first_holds (lt-ltb _ _ c.if-n-gt65535.true)

pub returns : goal.returns
returns c = first_passes (le-ltb _ _ c.if-n-gt65535.false) first_none
