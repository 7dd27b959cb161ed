-- After i turns the rows span the points of the first i slots.
use Rattle.descent.specs.SlotsBox.{Spanned}
use Rattle.descent.proofs.slots_box.slots_box.Given as goal

abbrev pub invariant-loop-p : goal.invariant-loop-p
invariant-loop-p l = Spanned l.k l.points l.order l.p-index l.rows.low l.rows.high
