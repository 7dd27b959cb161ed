-- Each group gives its refusal where it refuses; where it was passed the next one does.
use Rattle.std.proofs.Common.{refl}
use Rattle.terms.specs.RefusalNumbers.{number_is, handed_on}
use Rattle.theory.specs.FirstRefusal.{no_zero}
use Rattle.theory.specs.RefusalsPassed.{size_passed, live_passed}
use Rattle.hornherder.specs.First.{first_stops, first_passed, first_after}
use Rattle.hornherder.proofs.withdraw.test_withdraw.Goals as goal

pub returns-in_err-test_size : goal.returns-in_err-test_size
unfolding no_zero
returns-in_err-test_size c = rw (handed_on _ c.from_residual.ensures) (first_stops _ c.in_err-test_size.ensures (number_is _))

pub returns-in_err-test_live_bytes : goal.returns-in_err-test_live_bytes
unfolding no_zero
returns-in_err-test_live_bytes c = rw (handed_on _ c.from_residual-in_err-test_live_bytes.ensures) (first_after refl c.in_ok-test_size.ensures (first_stops _ c.in_err-test_live_bytes.ensures.first (number_is _)))

pub returns : goal.returns
unfolding no_zero
returns c = first_after refl c.in_ok-test_size.ensures (first_after refl c.in_ok-test_live_bytes.ensures.first c.test_live.ensures)

pub test_live_bytes-requires : goal.test_live_bytes-requires
unfolding no_zero
test_live_bytes-requires c = size_passed _ (first_passed refl c.in_ok-test_size.ensures refl)

pub test_live-requires : goal.test_live-requires
unfolding no_zero
test_live-requires c = (live_passed c.args.n c.args.live.now (first_passed refl c.in_ok-test_live_bytes.ensures.first refl)).bytes
