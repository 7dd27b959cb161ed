-- The lesser and the greater of two whole numbers.
use Rattle.std.specs.Prelude.{cond, ℤ}
use Rattle.std.specs.Int.Signed.{lt_z}

-- the lesser of two numbers
unfoldable pub lesser : ℤ → ℤ → ℤ
lesser a b = cond (lt_z b a) b a

-- the greater of two numbers
unfoldable pub greater : ℤ → ℤ → ℤ
greater a b = cond (lt_z a b) b a
