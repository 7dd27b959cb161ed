-- The total f 0 + .. + f (k - 1) of natural numbers that an index gives.
use Rattle.std.specs.Prelude.{ℕ, zero, suc, ◌+◌}

-- f 0 + .. + f (k - 1)
unfoldable pub total_to : ℕ → (ℕ → ℕ) → ℕ
total_to zero f = 0
total_to (suc d) f = total_to d f + f d
