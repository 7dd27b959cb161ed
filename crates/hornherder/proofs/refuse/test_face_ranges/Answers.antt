-- What `all_within` answers of the components and of the offsets, the other way round, are the two tests of the group.
use Rattle.std.proofs.Common.{pos, negsuc}
use Rattle.hornherder.specs.Between.{ints_refused, ints_pass}
use Rattle.hornherder.specs.First.{first_none, first_holds, first_passes}
use Rattle.hornherder.proofs.refuse.test_face_ranges.Goals as goal

pub returns-then-not-all_within : goal.returns-then-not-all_within
returns-then-not-all_within c = first_holds (ints_refused (negsuc 32766) (pos 32767) c.args.normals.now c.all_within.ensures c.if-not-all_within.true)

pub returns-then-not-all_within-2 : goal.returns-then-not-all_within-2
returns-then-not-all_within-2 c =
    first_passes
    (ints_pass (negsuc 32766) (pos 32767) c.args.normals.now c.all_within.ensures c.if-not-all_within.false)
    (first_holds (ints_refused (negsuc 8589934591) (pos 8589934592) c.args.offsets.now c.all_within-2.ensures c.if-not-all_within-2.true))

pub returns : goal.returns
returns c =
    first_passes
    (ints_pass (negsuc 32766) (pos 32767) c.args.normals.now c.all_within.ensures c.if-not-all_within.false)
    (first_passes (ints_pass (negsuc 8589934591) (pos 8589934592) c.args.offsets.now c.all_within-2.ensures c.if-not-all_within-2.false) first_none)
