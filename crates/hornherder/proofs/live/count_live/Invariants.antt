-- After i turns the first i bytes are counted: one over 1 makes `all` no, and each that is 1 counts.
use Rattle.std.proofs.Common.{◌≤◌}
use Rattle.hornherder.specs.Live.{CountedTo}
use Rattle.hornherder.proofs.live.count_live.Given as goal

abbrev pub invariant-loop-byte : goal.invariant-loop-byte
invariant-loop-byte l = (l.count ≤ l.byte-index) × CountedTo l.live l.byte-index l.all l.count
