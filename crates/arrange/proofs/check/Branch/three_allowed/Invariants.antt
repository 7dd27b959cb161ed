-- The test of three numbers against the bounds. The loop's invariant: the three are below n, and on every dimension passed their keys lie within. It
-- ends at k, which is four at most.
use Rattle.std.proofs.Common.{◌≡◌, true, ℕ, ◌≤◌, ◌<◌}
use Rattle.terms.specs.Points.{below}
use Rattle.arrange.specs.Key.{key_of}
use Rattle.arrange.specs.Allowed.{is_within, all_three, EachOfThree}
use Rattle.arrange.proofs.check.Branch.three_allowed.Given as goal

abbrev pub invariant-loop-d : goal.invariant-loop-d
invariant-loop-d l = record {
  below : EachOfThree (below l.self.stock.now.n) l.p l.q l.r;
  few : l.d ≤ l.self.stock.now.k;
  within : (i : ℕ) → i < l.d
      → all_three (λ n. is_within l.bounds.least l.bounds.end i (key_of l.self.stock.now.k l.self.stock.now.points.now i n)) l.p l.q l.r ≡ true;
}
