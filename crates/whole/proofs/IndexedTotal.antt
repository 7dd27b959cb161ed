-- Laws of the total f 0 + .. + f (k - 1) of natural numbers that an index gives.
use Rattle.std.specs.Prelude.{◌≢◌, ◌≡◌, refl, ℕ, zero, suc, ◌+◌, ◌*◌, ◌≤◌, ◌<◌}
use Rattle.std.proofs.Common.{not-suc-le-zero, suc-mul, add-one, arith}
use Rattle.std.proofs.Math.Decide.{ℕ_discrete}
use Rattle.whole.specs.IndexedTotal.{total_to}

-- what holds below h and at h holds below h + 1
pub below_suc : (P : ℕ → Type 0) (h : ℕ) → ((i : ℕ) → i < h → P i) → P h → (i : ℕ) → i < suc h → P i
below_suc P h f p i l = go (ℕ_discrete i h)
  where
    go : Dec (i ≡ h) → P i
    go (yes e) = rw e p
    go (no n) = f i (omega arith)

-- one more term at the end
pub total_next : (k : ℕ) (f : ℕ → ℕ) → total_to k f + f k ≡ total_to (k + 1) f
unfolding total_to
total_next k f = rw add-one

-- the first term taken out
pub total_front : (k : ℕ) (f : ℕ → ℕ) → total_to (suc k) f ≡ f 0 + total_to k (λ j. f (suc j))
unfolding total_to
total_front zero f = omega arith
total_front (suc k) f = let ih = total_front k f in omega arith

pub total_mono : (k : ℕ) (f g : ℕ → ℕ) → ((d : ℕ) → d < k → f d ≤ g d) → total_to k f ≤ total_to k g
unfolding total_to
total_mono zero f g h = omega arith
total_mono (suc k) f g h = omega (arith, total_mono k f g (λ d l. h d (omega arith)), h k (omega arith))

-- equal terms, equal totals
pub total_same : (k : ℕ) (f g : ℕ → ℕ) → ((d : ℕ) → d < k → f d ≡ g d) → total_to k f ≡ total_to k g
unfolding total_to
total_same zero f g h = refl
total_same (suc k) f g h = omega (arith, total_same k f g (λ d l. h d (omega arith)), h k (omega arith))

-- the total of the sums is the sum of the totals
pub total_add : (k : ℕ) (f g : ℕ → ℕ) → total_to k (λ d. f d + g d) ≡ total_to k f + total_to k g
unfolding total_to
total_add zero f g = refl
total_add (suc k) f g = let ih = total_add k f g in omega arith

-- terms twice as great, a total twice as great
pub total_twice : (k : ℕ) (f g : ℕ → ℕ) → ((d : ℕ) → d < k → g d ≡ f d + f d) → total_to k g ≡ total_to k f + total_to k f
total_twice k f g h = omega (arith, total_same k g (λ d. f d + f d) h, total_add k f f)

-- the total before a term, and the term, are at most the whole
pub total_part : (k : ℕ) (f : ℕ → ℕ) (i : ℕ) → i < k → total_to i f + f i ≤ total_to k f
unfolding total_to
total_part zero f i l = absurd (not-suc-le-zero l)
total_part (suc k) f i l =
    below_suc (λ n. total_to n f + f n ≤ total_to k f + f k) k (λ n m. omega (arith, total_part k f n m)) (omega arith) i l

-- a term is at most the total
pub total_term : (k : ℕ) (f : ℕ → ℕ) (i : ℕ) → i < k → f i ≤ total_to k f
total_term k f i l = omega (arith, total_part k f i l)

-- where every term is at most B, the total is at most k * B
pub total_most : (k B : ℕ) (f : ℕ → ℕ) → ((d : ℕ) → d < k → f d ≤ B) → total_to k f ≤ k * B
unfolding total_to
total_most zero B f h = omega arith
total_most (suc k) B f h = omega (arith, total_most k B f (λ d l. h d (omega arith)), h k (omega arith), suc-mul k B)

-- where every term is 0, the total is 0
pub total_zero : (k : ℕ) (f : ℕ → ℕ) → ((d : ℕ) → d < k → f d ≡ 0) → total_to k f ≡ 0
total_zero k f h = omega (arith, total_most k 0 f (λ d l. omega (arith, h d l)))

-- where the total is at most 1, at most one term is not 0
pub total_one_of : (p : ℕ) (f : ℕ → ℕ) → total_to (suc p) f ≤ 1
    → (a : ℕ) × (a < suc p) × ((d : ℕ) → d < suc p → d ≢ a → f d ≡ 0)
unfolding total_to
total_one_of zero f h = (0, omega arith, λ d l n. absurd (omega arith))
total_one_of (suc p) f h = go (f (suc p)) refl (total_one_of p f)
  where
    go : (z : ℕ) → f (suc p) ≡ z
        → (total_to (suc p) f ≤ 1 → (a : ℕ) × (a < suc p) × ((d : ℕ) → d < suc p → d ≢ a → f d ≡ 0))
        → (a : ℕ) × (a < suc (suc p)) × ((d : ℕ) → d < suc (suc p) → d ≢ a → f d ≡ 0)
    go zero e ih =
        let r = ih (omega arith) in
        (r.0, omega arith, below_suc (λ (i : ℕ). (i ≢ r.0 → f i ≡ 0)) (suc p) r.2 (λ m. e))
    go (suc z) e ih = (suc p, omega arith, λ d l n. omega (arith, total_term (suc p) f d (omega arith)))
