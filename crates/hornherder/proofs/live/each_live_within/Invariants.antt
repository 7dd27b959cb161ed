-- After p turns the live numbers below p have their coordinates in range; the first that has not decides.
use Rattle.std.proofs.Common.{◌≡◌, true, ℕ, ◌<◌}
use Rattle.terms.specs.Points.{coord}
use Rattle.terms.specs.Live.{is_live}
use Rattle.terms.specs.LivePoints.{point_in_range}
use Rattle.hornherder.proofs.live.each_live_within.Given as goal

abbrev pub invariant-loop-p : goal.invariant-loop-p
invariant-loop-p l = (q : ℕ) → q < l.p → is_live l.shaped.stock.n l.shaped.stock.live.now q ≡ true
    → point_in_range l.shaped.stock.k (coord l.shaped.stock.k l.shaped.stock.points.now q) ≡ true
