-- Each group gives its refusal where it refuses; where it was passed the next one does.
use Rattle.std.proofs.Common.{refl}
use Rattle.terms.specs.RefusalNumbers.{number_is, handed_on}
use Rattle.theory.specs.FirstRefusal.{no_zero}
use Rattle.terms.specs.Lent.{order_of}
use Rattle.terms.specs.LentValues.{stock_of, lent_faces}
use Rattle.hornherder.specs.ScreenOutcome.{screen_tested}
use Rattle.hornherder.specs.First.{first_stops, first_after}
use Rattle.hornherder.proofs.explain.test_explain.Goals as goal

pub returns-in_err-run-clause-first : goal.returns-in_err-run-clause-first
unfolding no_zero
returns-in_err-run-clause-first c = rw (handed_on _ c.from_residual.ensures) (first_stops _ c.in_err-run.ensures.first (number_is _))

pub returns-in_err-test_live-clause-first : goal.returns-in_err-test_live-clause-first
unfolding no_zero
returns-in_err-test_live-clause-first c = rw (handed_on _ c.from_residual-in_err-test_live.ensures) (first_after refl c.in_ok-run.ensures.first (first_stops _ c.in_err-test_live.ensures (number_is _)))

pub returns-clause-first : goal.returns-clause-first
unfolding no_zero
returns-clause-first c = first_after refl c.in_ok-run.ensures.first c.in_ok-test_live.ensures

pub test_live-requires : goal.test_live-requires
test_live-requires c = let a = c.args in (screen_tested (stock_of a.stock.now) (order_of a.order.now) (lent_faces a.faces.now) c.in_ok-run.ensures.first refl).tested.bytes
