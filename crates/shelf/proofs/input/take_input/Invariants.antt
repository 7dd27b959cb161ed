-- Never more bytes are counted than the text has places, and each turn that goes on takes some. With room left the loop ends only by its break, after a
-- read that gave nothing.
use mathlib.Core.Path.{◌≡◌}
use Prim.Native.Nat.{◌≤◌, ◌-◌}
use lib.ListN.{length}
use Rattle.shelf.proofs.input.take_input.Given as goal

abbrev pub invariant-loop-done : goal.invariant-loop-done
invariant-loop-done t l = (l.done ≤ length l.text) × (length l.text ≡ length l.initial.text)

abbrev pub decreases-loop-done : goal.decreases-loop-done
decreases-loop-done t l = length l.text - l.done
