-- What `all_within` answers, the other way round, is the test.
use Rattle.hornherder.specs.Between.{nats_refused, nats_pass}
use Rattle.hornherder.specs.First.{first_none, first_holds, first_passes}
use Rattle.hornherder.proofs.refuse.test_face_counts.Goals as goal

pub returns-then-not-all_within : goal.returns-then-not-all_within
returns-then-not-all_within c = first_holds (nats_refused 32 c.args.face_counts.now c.all_within.ensures c.if-not-all_within.true)

pub returns : goal.returns
returns c = first_passes (nats_pass 32 c.args.face_counts.now c.all_within.ensures c.if-not-all_within.false) first_none
