-- A whole number is its positive part less its negative part, and both parts are natural numbers.
use Rattle.std.specs.Prelude.{ℕ, suc, ℤ, pos, negsuc}

-- z if z is not negative, and 0 otherwise
abbrev pub up : ℤ → ℕ
up (pos n) = n
up (negsuc n) = 0

-- -z if z is negative, and 0 otherwise
abbrev pub dn : ℤ → ℕ
dn (pos n) = 0
dn (negsuc n) = suc n
