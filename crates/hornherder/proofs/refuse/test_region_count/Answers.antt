-- The first two comparisons are the two parts of the first test of the group, the third is the second test.
use Rattle.std.proofs.Common.{arith, not, ap, eq-eqb, ne_eqb}
use Rattle.hornherder.specs.Ranges.{too_few, too_many, neither}
use Rattle.hornherder.specs.First.{first_none, first_holds, first_passes}
use Rattle.hornherder.proofs.refuse.test_region_count.Goals as goal
use Rattle.hornherder.proofs.refuse.test_region_count.Goals.{then-regions-lt1-via-then-regions-lt1, then-regions-lt1-via-else-regions-lt1+then-regions-gt64}

pub returns-then-regions-lt1 : goal.returns-then-regions-lt1
returns-then-regions-lt1 c = elim c.then-regions-lt1.branch [
  | then-regions-lt1-via-then-regions-lt1 w ↦ first_holds (too_few 1 64 c.args.regions (omega (arith, w.if-regions-lt1.true)))
  | then-regions-lt1-via-else-regions-lt1+then-regions-gt64 w ↦ first_holds (too_many 1 64 c.args.regions (omega (arith, w.if-regions-lt1.false)) (omega (arith, w.if-regions-gt64.true)))
]

pub returns-then-face_counts-regions : goal.returns-then-face_counts-regions
returns-then-face_counts-regions c =
    first_passes
    (neither 1 64 c.args.regions (omega (arith, c.if-regions-lt1.false)) (omega (arith, c.if-regions-gt64.false)))
    (first_holds (ap not (ne_eqb _ _ c.if-face_counts-regions.true)))

pub returns : goal.returns
returns c =
    first_passes
    (neither 1 64 c.args.regions (omega (arith, c.if-regions-lt1.false)) (omega (arith, c.if-regions-gt64.false)))
    (first_passes (ap not (eq-eqb _ _ c.if-face_counts-regions.false)) first_none)
