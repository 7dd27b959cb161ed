-- The checker's answer on the first slots is the test of 9, the other way round.
use Rattle.std.proofs.Common.{sym, ap, ◌∙◌, not}
use Rattle.hornherder.specs.First.{first_none, first_holds, first_passes}
use Rattle.hornherder.proofs.refuse.test_tree.Goals as goal

pub returns-then-not-check-clause-first : goal.returns-then-not-check-clause-first
returns-then-not-check-clause-first c = first_holds (ap not (sym (rw (c.args.shaped.now.counted) at c.check.ensures) ∙ c.if-not-check.true))

pub returns-clause-first : goal.returns-clause-first
returns-clause-first c = first_passes (ap not (sym (rw (c.args.shaped.now.counted) at c.check.ensures) ∙ c.if-not-check.false)) first_none
