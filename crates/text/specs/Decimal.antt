-- A number as text, in bytes: decimal digits, no leading zero, a minus sign in front of a negative number.
use Rattle.std.specs.Prelude.{List, [], ◌∷◌, ◌++◌, ℕ, zero, suc, ◌+◌, ◌/◌, ◌%◌, ℤ, pos, negsuc}

-- The digits of n, and none for 0. The first number bounds the descent: n itself is enough.
unfoldable pub digits_within : ℕ → ℕ → List ℕ
digits_within zero n = []
digits_within (suc f) zero = []
digits_within (suc f) (suc n) = digits_within f (suc n / 10) ++ ((48 + suc n % 10) ∷ [])

-- A natural number: its digits, and one digit for 0.
unfoldable pub decimal : ℕ → List ℕ
decimal zero = 48 ∷ []
decimal (suc n) = digits_within (suc n) (suc n)

-- A whole number: a minus sign in front of a negative one.
unfoldable pub written : ℤ → List ℕ
written (pos n) = decimal n
written (negsuc n) = 45 ∷ decimal (suc n)
