-- What `live_within` answers, the other way round, is the test.
use Rattle.std.proofs.Common.{sym, ap, ◌∙◌, not}
use Rattle.hornherder.specs.First.{first_none, first_holds, first_passes}
use Rattle.hornherder.proofs.refuse.test_live_coordinates.Goals as goal

pub returns-then-not-live_within : goal.returns-then-not-live_within
returns-then-not-live_within c = first_holds (ap not (sym c.live_within.ensures ∙ c.if-not-live_within.true))

pub returns : goal.returns
returns c = first_passes (ap not (sym c.live_within.ensures ∙ c.if-not-live_within.false)) first_none
