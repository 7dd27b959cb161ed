-- The comparison is the test.
use Rattle.std.proofs.Common.{lt-ltb, le-ltb}
use Rattle.hornherder.specs.First.{first_none, first_holds, first_passes}
use Rattle.hornherder.proofs.refuse.test_room.Goals as goal

pub returns-then-room-places : goal.returns-then-room-places
returns-then-room-places c = first_holds (lt-ltb _ _ c.if-room-places.true)

pub returns : goal.returns
returns c = first_passes (le-ltb _ _ c.if-room-places.false) first_none
