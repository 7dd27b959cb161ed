-- The comparison is the test.
use Rattle.std.proofs.Common.{lt-ltb, le-ltb}
use Rattle.hornherder.specs.First.{first_none, first_holds, first_passes}
use Rattle.hornherder.proofs.refuse.test_face_count.Goals as goal

pub returns-then-h-gt32 : goal.returns-then-h-gt32
returns-then-h-gt32 c = first_holds (lt-ltb _ _ c.if-h-gt32.true)

pub returns : goal.returns
returns c = first_passes (le-ltb _ _ c.if-h-gt32.false) first_none
