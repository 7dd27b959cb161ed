-- An order of the whole numbers with the choice of that of two numbers which comes first in it.
-- What is proved of any such choice holds of the lesser and of the greater.
use Rattle.std.specs.Prelude.{◌≡◌, ℤ, ◌≤ℤ◌}

-- The order of the greatest: what is greater comes first.
abbrev pub AtLeast : ℤ → ℤ → Type 0
AtLeast a b = b ≤ℤ a

-- An order of numbers, and the choice of that of two which comes first in it.
pub record Choice (le : ℤ → ℤ → Type 0) (pick : ℤ → ℤ → ℤ) : Type 0 where
  pub trans : {a b c : ℤ} → le a b → le b c → le a c
  pub left : (a b : ℤ) → le (pick a b) a
  pub right : (a b : ℤ) → le (pick a b) b
  pub both : {z a b : ℤ} → le z a → le z b → le z (pick a b)
  pub antisym : {a b : ℤ} → le a b → le b a → a ≡ b
