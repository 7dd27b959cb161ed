-- A refusal leaves the live bytes; where all was passed the number's byte is cleared.
use Rattle.std.proofs.Common.{refl, arith}
use Rattle.terms.specs.RefusalNumbers.{number_is, handed_on}
use Rattle.theory.specs.LiveNumbers.{live_under}
use Rattle.hornherder.specs.WithdrawOutcome.{withdraw_tested, withdraw_refused, withdraw_done}
use Rattle.hornherder.proofs.withdraw.withdraw.Goals as goal

pub returns-in_err-test_withdraw : goal.returns-in_err-test_withdraw
returns-in_err-test_withdraw c = rw (handed_on _ c.from_residual.ensures) (withdraw_refused _ _ _ c.in_err-test_withdraw.ensures (number_is _))

pub bounds-live-number : goal.bounds-live-number
bounds-live-number c =
    let a = c.args in
    let t = withdraw_tested a.n a.number a.live.now c.in_ok-test_withdraw.ensures refl in
    omega (arith, t.live_tested.bytes, live_under a.n a.live.now a.number t.alive)

pub returns : goal.returns
returns c = withdraw_done _ _ _ c.in_ok-test_withdraw.ensures refl
