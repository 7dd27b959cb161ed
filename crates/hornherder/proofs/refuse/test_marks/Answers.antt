-- The comparison and what `all_within` answers, the other way round, are the two tests of the group.
use Rattle.std.proofs.Common.{not, ap, eq-eqb, ne_eqb}
use Rattle.hornherder.specs.Between.{nats_refused, nats_pass}
use Rattle.hornherder.specs.First.{first_none, first_holds, first_passes}
use Rattle.hornherder.proofs.refuse.test_marks.Goals as goal

pub returns-then-marks-h : goal.returns-then-marks-h
returns-then-marks-h c = first_holds (ap not (ne_eqb _ _ c.if-marks-h.true))

pub returns-then-not-all_within : goal.returns-then-not-all_within
returns-then-not-all_within c =
    first_passes
    (ap not (eq-eqb _ _ c.if-marks-h.false))
    (first_holds (nats_refused 1 c.args.marks.now c.all_within.ensures c.if-not-all_within.true))

pub returns : goal.returns
returns c =
    first_passes
    (ap not (eq-eqb _ _ c.if-marks-h.false))
    (first_passes (nats_pass 1 c.args.marks.now c.all_within.ensures c.if-not-all_within.false) first_none)
