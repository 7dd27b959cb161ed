-- After d turns the first d places of each row are chosen and the others are as they were.
use Rattle.whole.specs.Order.{lesser, greater}
use Rattle.descent.specs.Joined.{RowTo}
use Rattle.descent.proofs.joined.joined.Given as goal

abbrev pub invariant-loop-d : goal.invariant-loop-d
invariant-loop-d l = RowTo lesser l.fn.a.low l.fn.b.low l.d l.low × RowTo greater l.fn.a.high l.fn.b.high l.d l.high
