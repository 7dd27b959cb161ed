-- Whether a number lies in a range, by any order; and what that is by the orders of the whole and of the natural numbers.
use Rattle.std.specs.Prelude.{◌≡◌, refl, Bool, true, false, ◌&&◌, not, cond, List, [], ◌∷◌, ℕ, ℤ, leb}
use Rattle.std.specs.declared.cmp.Ordering.{Ordering}
use Rattle.std.specs.declared.cmp.Ordering.TheVariants.{Less, Equal, Greater}
use Rattle.std.specs.Ordering.{is_le, int_cmp, nat_cmp}
use Rattle.std.specs.Int.Signed.{lt_z, le_z}
use Rattle.std.proofs.Common.{arith, le-leb}
use Rattle.std.proofs.lemmas.Bool.Decides.{nat_tests}
use Rattle.whole.proofs.Parts.{flags}
use Rattle.terms.specs.Tests.{every}
use Rattle.terms.specs.Points.{within}

-- The number lies from least to greatest.
abbrev pub between : {A : Type 0} → (A → A → Ordering) → A → A → A → Bool
between cmp least greatest x = is_le (cmp least x) && is_le (cmp x greatest)

-- At most, as the order of the whole numbers says it.
int_le : (a b : ℤ) → is_le (int_cmp a b) ≡ le_z a b
int_le a b = go (lt_z a b) (lt_z b a) refl refl
  where
    go : (s t : Bool) → lt_z a b ≡ s → lt_z b a ≡ t → is_le (cond s Less (cond t Greater Equal)) ≡ le_z a b
    go true t p q = let u : le_z a b ≡ true = omega flags in rw u
    go false true p q = let u : le_z a b ≡ false = omega flags in rw u
    go false false p q = let u : le_z a b ≡ true = omega flags in rw u

pub int_between : (least greatest x : ℤ) → between int_cmp least greatest x ≡ within least greatest x
int_between least greatest x = rw (int_le least x, int_le x greatest) refl

-- Every number of a list.
pub every_int : (least greatest : ℤ) (xs : List ℤ) → every (between int_cmp least greatest) xs ≡ every (within least greatest) xs
unfolding every
every_int least greatest [] = refl
every_int least greatest (x ∷ xs) = rw (int_between least greatest x, every_int least greatest xs) refl

-- The same of the natural numbers.
nat_le : (a b : ℕ) → is_le (nat_cmp a b) ≡ leb a b
nat_le a b = grind (arith, nat_tests)

pub nat_between : (greatest x : ℕ) → between nat_cmp 0 greatest x ≡ leb x greatest
nat_between greatest x = rw (nat_le 0 x, nat_le x greatest, le-leb 0 x (omega arith)) refl

pub every_nat : (greatest : ℕ) (xs : List ℕ) → every (between nat_cmp 0 greatest) xs ≡ every (λ x. leb x greatest) xs
unfolding every
every_nat greatest [] = refl
every_nat greatest (x ∷ xs) = rw (nat_between greatest x, every_nat greatest xs) refl

-- What the loop over a list answers, turned round, is the test of a refusal.
pub ints_refused : (least greatest : ℤ) (xs : List ℤ) {t : Bool} → t ≡ every (between int_cmp least greatest) xs → t ≡ false → not (every (within least greatest) xs) ≡ true
ints_refused least greatest xs e n = rw (← every_int least greatest xs, ← e, n) refl

pub ints_pass : (least greatest : ℤ) (xs : List ℤ) {t : Bool} → t ≡ every (between int_cmp least greatest) xs → t ≡ true → not (every (within least greatest) xs) ≡ false
ints_pass least greatest xs e y = rw (← every_int least greatest xs, ← e, y) refl

pub nats_refused : (greatest : ℕ) (xs : List ℕ) {t : Bool} → t ≡ every (between nat_cmp 0 greatest) xs → t ≡ false → not (every (λ x. leb x greatest) xs) ≡ true
nats_refused greatest xs e n = rw (← every_nat greatest xs, ← e, n) refl

pub nats_pass : (greatest : ℕ) (xs : List ℕ) {t : Bool} → t ≡ every (between nat_cmp 0 greatest) xs → t ≡ true → not (every (λ x. leb x greatest) xs) ≡ false
nats_pass greatest xs e y = rw (← every_nat greatest xs, ← e, y) refl
