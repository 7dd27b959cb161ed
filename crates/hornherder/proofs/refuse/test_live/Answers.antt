-- The two comparisons are the two parts of the test of the group, the other way round.
use Rattle.std.proofs.Common.{◌∙◌, arith, le-ltb, eq-eqb, ne_eqb}
use Rattle.terms.specs.Live.{is_live}
use Rattle.theory.specs.Flags.{true_not, false_not}
use Rattle.theory.specs.LiveNumbers.{live_byte}
use Rattle.hornherder.specs.First.{first_none, first_holds, first_passes}
use Rattle.hornherder.proofs.refuse.test_live.Goals as goal
use Rattle.hornherder.proofs.refuse.test_live.Goals.{then-n-p-via-then-n-p, then-n-p-via-else-n-p+then-live-p-ne1}

pub returns-then-n-p : goal.returns-then-n-p
returns-then-n-p c =
    let a = c.args in elim c.then-n-p.branch [
      | then-n-p-via-then-n-p w ↦ first_holds (true_not {t = is_live a.n a.live.now a.number} (rw (le-ltb a.number a.n w.if-n-p.true)))
      | then-n-p-via-else-n-p+then-live-p-ne1 w ↦ first_holds (true_not (live_byte a.n a.live.now a.number (omega (arith, w.if-n-p.false)) ∙ ne_eqb _ 1 w.if-live-p-ne1.true))
    ]

pub returns : goal.returns
returns c =
    let a = c.args in
    first_passes (false_not (live_byte a.n a.live.now a.number (omega arith) ∙ eq-eqb _ 1 c.if-live-p-ne1.false)) first_none
