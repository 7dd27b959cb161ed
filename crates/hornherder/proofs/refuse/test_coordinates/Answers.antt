-- What `all_within` answers, the other way round, is the test.
use Rattle.std.proofs.Common.{pos, negsuc}
use Rattle.hornherder.specs.Between.{ints_refused, ints_pass}
use Rattle.hornherder.specs.First.{first_none, first_holds, first_passes}
use Rattle.hornherder.proofs.refuse.test_coordinates.Goals as goal

pub returns-then-not-all_within : goal.returns-then-not-all_within
returns-then-not-all_within c = first_holds (ints_refused (negsuc 32767) (pos 32767) c.args.point.now c.all_within.ensures c.if-not-all_within.true)

pub returns : goal.returns
returns c = first_passes (ints_pass (negsuc 32767) (pos 32767) c.args.point.now c.all_within.ensures c.if-not-all_within.false) first_none
