-- After i turns `all` says whether the first i numbers lie in the range.
use Rattle.std.proofs.Common.{◌≡◌, take}
use Rattle.terms.specs.Tests.{every}
use Rattle.hornherder.specs.Between.{between}
use Rattle.hornherder.proofs.ranges.all_within.Given as goal

abbrev pub invariant-loop-x : goal.invariant-loop-x
invariant-loop-x g l = l.all ≡ every (between g.T.Ord.cmp l.least l.greatest) (take l.x-index l.numbers)
