-- After d turns the first d places hold the first d coordinates.
use Rattle.std.proofs.Common.{◌≡◌, ℕ, ◌<◌, get_or, pos}
use Rattle.hornherder.proofs.take.write_coordinates.Given as goal

abbrev pub invariant-loop-d : goal.invariant-loop-d
invariant-loop-d l = (e : ℕ) → e < l.d → get_or l.place e (pos 0) ≡ get_or l.point e (pos 0)
