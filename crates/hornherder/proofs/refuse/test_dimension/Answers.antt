-- The two comparisons are the two parts of the test.
use Rattle.std.proofs.Common.{arith}
use Rattle.hornherder.specs.Ranges.{too_few, too_many, neither}
use Rattle.hornherder.specs.First.{first_none, first_holds, first_passes}
use Rattle.hornherder.proofs.refuse.test_dimension.Goals as goal
use Rattle.hornherder.proofs.refuse.test_dimension.Goals.{then-k-lt1-via-then-k-lt1, then-k-lt1-via-else-k-lt1+then-k-gt4}

pub returns-then-k-lt1 : goal.returns-then-k-lt1
returns-then-k-lt1 c = elim c.then-k-lt1.branch [
  | then-k-lt1-via-then-k-lt1 w ↦ first_holds (too_few 1 4 c.args.k (omega (arith, w.if-k-lt1.true)))
  | then-k-lt1-via-else-k-lt1+then-k-gt4 w ↦ first_holds (too_many 1 4 c.args.k (omega (arith, w.if-k-lt1.false)) (omega (arith, w.if-k-gt4.true)))
]

pub returns : goal.returns
returns c = first_passes (neither 1 4 c.args.k (omega (arith, c.if-k-lt1.false)) (omega (arith, c.if-k-gt4.false))) first_none
