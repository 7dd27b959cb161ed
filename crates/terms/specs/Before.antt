-- The comparison of numbers on a dimension: by coordinate, then by number.
use Rattle.std.specs.Prelude.{Bool, ◌&&◌, ◌||◌, ℕ, ℤ, ltb}
use Rattle.std.specs.Int.Signed.{lt_z, le_z}

-- On dimension s, number p comes strictly before number q.
unfoldable pub before : (ℕ → ℕ → ℤ) → ℕ → ℕ → ℕ → Bool
before at s p q = lt_z (at p s) (at q s) || (le_z (at p s) (at q s) && ltb p q)
