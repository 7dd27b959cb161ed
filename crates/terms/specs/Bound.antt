-- The visit bound: the binary digits of n, the sum S(n, k), and which faces are square.
use Rattle.std.specs.Prelude.{Bool, not, ℕ, zero, suc, ◌-◌, ◌/◌, ◌^◌, leb, eqb, nat_abs}
use Rattle.whole.specs.IndexedTotal.{total_to}
use Rattle.terms.specs.Tests.{bit}
use Rattle.terms.specs.Region.{Region}

-- How many binary digits n has. The first number bounds the halvings: n is enough.
unfoldable pub digits_within : ℕ → ℕ → ℕ
digits_within zero n = 0
digits_within (suc f) zero = 0
digits_within (suc f) (suc n) = suc (digits_within f (suc n / 2))

-- H: the number of binary digits of n, 0 for n = 0.
unfoldable pub digits : ℕ → ℕ
digits n = digits_within n n

-- S(n, k): the sum over j = 0 to H - 1 of 2 to the power (j minus j / k rounded down).
unfoldable pub S : ℕ → ℕ → ℕ
S n k = total_to (digits n) (λ j. 2 ^ (j - j / k))

-- Face i is square: at most one component is not zero.
unfoldable pub is_square : Region → ℕ → Bool
is_square g i = leb (total_to g.k (λ d. bit (not (eqb (nat_abs (g.component i d)) 0)))) 1
