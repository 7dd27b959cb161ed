-- The sum f 0 + .. + f (k - 1) of whole numbers that an index gives.
use Rattle.std.specs.Prelude.{ℕ, zero, suc, ℤ, pos, ◌+ℤ◌}

-- f 0 + .. + f (k - 1)
unfoldable pub sum_to : ℕ → (ℕ → ℤ) → ℤ
sum_to zero f = pos 0
sum_to (suc d) f = sum_to d f +ℤ f d
