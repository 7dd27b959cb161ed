-- The invariant is what is written so far: the live numbers below p. A dead number stands behind them and is written over.
use Rattle.std.proofs.Common.{length}
use Rattle.terms.specs.Live.{is_live}
use Rattle.arrange.specs.Filled.{FilledTo}
use Rattle.arrange.proofs.live.fill_live.Given as goal

abbrev pub invariant-loop-p : goal.invariant-loop-p
invariant-loop-p l = FilledTo (is_live (length l.live) l.live) (length l.live) l.order l.at l.p
