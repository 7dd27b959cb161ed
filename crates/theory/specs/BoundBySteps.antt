-- The most visits that one square face can cost in a run of fewer than 2 ^ H slots, by the steps down the tree.
-- A run counts one; below a split on the face's axis only one branch goes on, below another split both do.
use Rattle.std.specs.Prelude.{ℕ, zero, suc, ◌+◌}

-- In k = p + 1 dimensions, where t splits come before the next one on the face's axis.
unfoldable pub step_bound : ℕ → ℕ → ℕ → ℕ
step_bound p zero t = 0
step_bound p (suc H) zero = suc (step_bound p H p)
step_bound p (suc H) (suc t) = suc (step_bound p H t + step_bound p H t)
