-- Laws of the sum f 0 + .. + f (k - 1) of whole numbers that an index gives.
use Rattle.std.specs.Prelude.{◌≢◌, ◌≡◌, refl, ℕ, zero, suc, ◌+◌, ◌*◌, ◌^◌, ◌≤◌, ◌<◌, ℤ, pos, neg_ℤ, nat_abs, ◌+ℤ◌, ◌*ℤ◌, ◌≤ℤ◌, T, ltb}
use Rattle.std.proofs.Common.{sym, ap, ◌∙◌, not-suc-le-zero, mul-le-mul_left, add-one, arith}
use Rattle.std.proofs.Math.Decide.{ℕ_discrete}
use Rattle.std.specs.Int.{Width}
use mir.Val.{SFits, hbits}
use Rattle.whole.proofs.Parts.{ints, sum_parts}
use Rattle.whole.proofs.Sums.{add_mono, add_zero, zero_add, neg_sum}
use Rattle.whole.proofs.Products.{mul_zero, mul_sum}
use Rattle.whole.proofs.Magnitudes.{abs_sum, abs_mul}
use Rattle.whole.proofs.Fits.{fits_abs_le}
use Rattle.whole.specs.IndexedTotal.{total_to}
use Rattle.whole.specs.IndexedSum.{sum_to}

-- one more term at the end
pub sum_next : (k : ℕ) (f : ℕ → ℤ) → sum_to k f +ℤ f k ≡ sum_to (k + 1) f
unfolding sum_to
sum_next k f = rw add-one

pub sum_mono : (k : ℕ) (f g : ℕ → ℤ) → ((d : ℕ) → d < k → f d ≤ℤ g d) → sum_to k f ≤ℤ sum_to k g
unfolding sum_to
sum_mono zero f g h = omega ints
sum_mono (suc k) f g h = add_mono (sum_mono k f g (λ d l. h d (omega arith))) (h k (omega arith))

-- equal terms, equal sums
pub sum_same : (k : ℕ) (f g : ℕ → ℤ) → ((d : ℕ) → d < k → f d ≡ g d) → sum_to k f ≡ sum_to k g
unfolding sum_to
sum_same zero f g h = refl
sum_same (suc k) f g h = cc (sum_same k f g (λ d l. h d (omega arith)), h k (omega arith))

-- where every term is 0, the sum is 0
pub sum_zero : (k : ℕ) (f : ℕ → ℤ) → ((d : ℕ) → d < k → f d ≡ pos 0) → sum_to k f ≡ pos 0
unfolding sum_to
sum_zero zero f h = refl
sum_zero (suc k) f h = rw (sum_zero k f (λ d l. h d (omega arith)), h k (omega arith))

-- where every term from k on is 0, those from k on add nothing
pub sum_rest : (n k : ℕ) (f : ℕ → ℤ) → k ≤ n → ((d : ℕ) → k ≤ d → d < n → f d ≡ pos 0) → sum_to n f ≡ sum_to k f
unfolding sum_to
sum_rest zero k f l h = let e : k ≡ 0 = omega arith in rw e
sum_rest (suc n) k f l h = go (ℕ_discrete k (suc n)) (λ m. sum_rest n k f m (λ d a b. h d a (omega arith)))
  where
    go : Dec (k ≡ suc n) → (k ≤ n → sum_to n f ≡ sum_to k f) → sum_to n f +ℤ f n ≡ sum_to k f
    go (yes e) ih = rw e
    go (no m) ih = rw (h n (omega arith) (omega arith)) (add_zero (sum_to n f) ∙ ih (omega arith))

-- where every term but the one at a is 0, the sum is that term
pub sum_single : (k a : ℕ) (f : ℕ → ℤ) → a < k → ((d : ℕ) → d < k → d ≢ a → f d ≡ pos 0) → sum_to k f ≡ f a
unfolding sum_to
sum_single zero a f l h = absurd (not-suc-le-zero l)
sum_single (suc k) a f l h = go (ℕ_discrete a k) (sum_single k a f)
  where
    go : Dec (a ≡ k) → (a < k → ((d : ℕ) → d < k → d ≢ a → f d ≡ pos 0) → sum_to k f ≡ f a)
        → sum_to k f +ℤ f k ≡ f a
    go (yes e) ih = rw (e, sum_zero k f (λ d m. h d (omega arith) (λ q. omega arith))) (zero_add (f k))
    go (no n) ih =
        rw (ih (omega arith) (λ d m. h d (omega arith)), h k (omega arith) (λ q. n (sym q))) (add_zero (f a))

-- the sum of the sums of two terms is the sum of the two sums
pub sum_add : (k : ℕ) (f g : ℕ → ℤ) → sum_to k (λ d. f d +ℤ g d) ≡ sum_to k f +ℤ sum_to k g
unfolding sum_to
sum_add zero f g = refl
sum_add (suc k) f g = omega (
  ints,
  sum_add k f g,
  sum_parts (f k) (g k),
  sum_parts (sum_to k f) (f k),
  sum_parts (sum_to k g) (g k),
  sum_parts (sum_to k f) (sum_to k g),
  sum_parts (sum_to k f +ℤ f k) (sum_to k g +ℤ g k),
  sum_parts (sum_to k (λ d. f d +ℤ g d)) (f k +ℤ g k),
)

-- where every term is negated, the sum is
pub sum_neg : (k : ℕ) (f : ℕ → ℤ) → sum_to k (λ d. neg_ℤ (f d)) ≡ neg_ℤ (sum_to k f)
unfolding sum_to
sum_neg zero f = refl
sum_neg (suc k) f = rw (sum_neg k f) (sym (neg_sum (sum_to k f) (f k)))

-- a factor of every term is a factor of the sum
pub sum_scale : (k : ℕ) (n : ℤ) (f : ℕ → ℤ) → sum_to k (λ d. n *ℤ f d) ≡ n *ℤ sum_to k f
unfolding sum_to
sum_scale zero n f = sym (mul_zero n)
sum_scale (suc k) n f = ap (λ (z : ℤ). z +ℤ n *ℤ f k) (sum_scale k n f) ∙ sym (mul_sum n (sum_to k f) (f k))

-- k terms of size B at most have a sum of size k * B at most
pub sum_abs : (k B : ℕ) (f : ℕ → ℤ) → ((d : ℕ) → d < k → nat_abs (f d) ≤ B) → nat_abs (sum_to k f) ≤ k * B
unfolding sum_to
sum_abs zero B f h = omega arith
sum_abs (suc k) B f h =
    omega (arith, abs_sum (sum_to k f) (f k), sum_abs k B f (λ d l. h d (omega arith)), h k (omega arith))

-- products with factors of size B at most have a sum of at most B times the total size of the others
pub sum_size : (k B : ℕ) (f g : ℕ → ℤ) → ((d : ℕ) → d < k → nat_abs (g d) ≤ B)
    → nat_abs (sum_to k (λ d. f d *ℤ g d)) ≤ total_to k (λ d. nat_abs (f d)) * B
unfolding sum_to total_to
sum_size zero B f g h = omega arith
sum_size (suc k) B f g h = omega (
  arith,
  abs_sum (sum_to k (λ d. f d *ℤ g d)) (f k *ℤ g k),
  abs_mul (f k) (g k),
  mul-le-mul_left (nat_abs (f k)) (h k (omega arith)),
  sum_size k B f g (λ d l. h d (omega arith)),
)

-- a sum of k terms of size B at most, `fits_sum_to 4 1073741824 f h tt`
pub fits_sum_to : {w : Width} (k B : ℕ) (f : ℕ → ℤ) → ((d : ℕ) → d < k → nat_abs (f d) ≤ B)
    → T (ltb (k * B) (2 ^ hbits w)) → SFits w (sum_to k f)
fits_sum_to k B f h t = fits_abs_le (k * B) (sum_abs k B f h) t
