-- Each group gives its refusal where it refuses; where both were passed the stock has its shape.
use Rattle.std.proofs.Common.{refl}
use Rattle.terms.specs.RefusalNumbers.{number_is, handed_on}
use Rattle.theory.specs.FirstRefusal.{no_zero}
use Rattle.terms.specs.LentValues.{stock_of}
use Rattle.theory.specs.RefusalsPassed.{shape_passed}
use Rattle.hornherder.specs.First.{first_stops, first_passed, first_after}
use Rattle.hornherder.specs.Live.{stock_lent}
use Rattle.hornherder.proofs.refuse.test_stock.Goals as goal

pub returns-in_err-test_shape-clause-first : goal.returns-in_err-test_shape-clause-first
unfolding no_zero
returns-in_err-test_shape-clause-first c = rw (handed_on _ c.from_residual.ensures) (first_stops _ c.in_err-test_shape.ensures (number_is _))

pub returns-in_err-slots-clause-first : goal.returns-in_err-slots-clause-first
unfolding no_zero
returns-in_err-slots-clause-first c = rw (handed_on _ c.from_residual-in_err-slots.ensures) (first_after refl c.in_ok-test_shape.ensures (first_stops _ c.in_err-slots.ensures.first (number_is _)))

pub returns-clause-first : goal.returns-clause-first
unfolding no_zero
returns-clause-first c = first_after refl c.in_ok-test_shape.ensures c.in_ok-slots.ensures.first

pub test_live_bytes-requires : goal.test_live_bytes-requires
unfolding no_zero
test_live_bytes-requires c = let s = c.args.stock.now in (shape_passed s.k s.n s.points.now (first_passed refl c.in_ok-test_shape.ensures refl)).many

pub invariant_of-result : goal.invariant_of-result
unfolding no_zero
invariant_of-result c = record {
  lent = stock_lent (stock_of c.args.stock.now) (first_passed refl (first_after refl c.in_ok-test_shape.ensures c.in_ok-slots.ensures.first) refl);
  counted = c.in_ok-slots.ensures.many;
}
