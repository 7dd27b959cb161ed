-- The order of the whole numbers, what its tests say, and the lesser and the greater of two.
use Rattle.std.specs.Prelude.{◌⊎◌, ◌≡◌, refl, Bool, true, false, cond, ℤ, pos, ◌+ℤ◌, ◌≤ℤ◌, ◌<ℤ◌}
use Rattle.std.proofs.Common.{inl, inr}
use Rattle.std.specs.Int.Signed.{lt_z, le_z}
use Rattle.whole.proofs.Parts.{ints, flags, sum_parts}
use Rattle.whole.specs.Order.{lesser, greater}

pub le_refl : (a : ℤ) → a ≤ℤ a
le_refl a = omega ints

pub le_of_eq : {a b : ℤ} → a ≡ b → a ≤ℤ b
le_of_eq e = omega ints

pub le_of_lt : {a b : ℤ} → a <ℤ b → a ≤ℤ b
le_of_lt h = omega ints

pub le_trans : {a b c : ℤ} → a ≤ℤ b → b ≤ℤ c → a ≤ℤ c
le_trans h k = omega ints

pub lt_trans : {a b c : ℤ} → a <ℤ b → b <ℤ c → a <ℤ c
lt_trans h k = omega ints

pub lt_of_lt_of_le : {a b c : ℤ} → a <ℤ b → b ≤ℤ c → a <ℤ c
lt_of_lt_of_le h k = omega ints

pub lt_of_le_of_lt : {a b c : ℤ} → a ≤ℤ b → b <ℤ c → a <ℤ c
lt_of_le_of_lt h k = omega ints

pub le_antisym : {a b : ℤ} → a ≤ℤ b → b ≤ℤ a → a ≡ b
le_antisym h k = omega ints

pub not_lt_of_le : {a b : ℤ} → a ≤ℤ b → b <ℤ a → ⊥
not_lt_of_le h k = omega ints

pub suc_le_of_lt : {a b : ℤ} → a <ℤ b → (a +ℤ pos 1) ≤ℤ b
suc_le_of_lt {a} h = omega (ints, sum_parts a (pos 1))

pub lt_of_suc_le : {a b : ℤ} → (a +ℤ pos 1) ≤ℤ b → a <ℤ b
lt_of_suc_le {a} h = omega (ints, sum_parts a (pos 1))

-- ---- the tests
pub le_z_le : {a b : ℤ} → le_z a b ≡ true → a ≤ℤ b
le_z_le {a} {b} e = omega flags

pub le_z_gt : {a b : ℤ} → le_z a b ≡ false → b <ℤ a
le_z_gt {a} {b} e = omega flags

pub lt_z_lt : {a b : ℤ} → lt_z a b ≡ true → a <ℤ b
lt_z_lt {a} {b} e = omega flags

pub lt_z_ge : {a b : ℤ} → lt_z a b ≡ false → b ≤ℤ a
lt_z_ge {a} {b} e = omega flags

pub le_le_z : {a b : ℤ} → a ≤ℤ b → le_z a b ≡ true
le_le_z {a} {b} h = omega flags

pub gt_le_z : {a b : ℤ} → b <ℤ a → le_z a b ≡ false
gt_le_z {a} {b} h = omega flags

pub lt_lt_z : {a b : ℤ} → a <ℤ b → lt_z a b ≡ true
lt_lt_z {a} {b} h = omega flags

pub ge_lt_z : {a b : ℤ} → b ≤ℤ a → lt_z a b ≡ false
ge_lt_z {a} {b} h = omega flags

pub le_or_gt : (a b : ℤ) → (a ≤ℤ b) ⊎ (b <ℤ a)
le_or_gt a b = go (le_z a b) refl
  where
    go : (t : Bool) → le_z a b ≡ t → (a ≤ℤ b) ⊎ (b <ℤ a)
    go true e = inl (le_z_le e)
    go false e = inr (le_z_gt e)

-- ---- the lesser and the greater
pub lesser_eq_left : {a b : ℤ} → a ≤ℤ b → lesser a b ≡ a
unfolding lesser
lesser_eq_left h = rw (ge_lt_z h)

pub lesser_eq_right : {a b : ℤ} → b ≤ℤ a → lesser a b ≡ b
unfolding lesser
lesser_eq_right {a} {b} h = go (lt_z b a) refl
  where
    go : (t : Bool) → lt_z b a ≡ t → cond t b a ≡ b
    go true e = refl
    go false e = le_antisym (lt_z_ge e) h

pub greater_eq_left : {a b : ℤ} → b ≤ℤ a → greater a b ≡ a
unfolding greater
greater_eq_left h = rw (ge_lt_z h)

pub greater_eq_right : {a b : ℤ} → a ≤ℤ b → greater a b ≡ b
unfolding greater
greater_eq_right {a} {b} h = go (lt_z a b) refl
  where
    go : (t : Bool) → lt_z a b ≡ t → cond t b a ≡ b
    go true e = refl
    go false e = le_antisym h (lt_z_ge e)

pub lesser_one_of : (a b : ℤ) → (lesser a b ≡ a) ⊎ (lesser a b ≡ b)
unfolding lesser
lesser_one_of a b = go (lt_z b a)
  where
    go : (t : Bool) → (cond t b a ≡ a) ⊎ (cond t b a ≡ b)
    go true = inr refl
    go false = inl refl

pub greater_one_of : (a b : ℤ) → (greater a b ≡ a) ⊎ (greater a b ≡ b)
unfolding greater
greater_one_of a b = go (lt_z a b)
  where
    go : (t : Bool) → (cond t b a ≡ a) ⊎ (cond t b a ≡ b)
    go true = inr refl
    go false = inl refl

pub lesser_le_left : (a b : ℤ) → lesser a b ≤ℤ a
lesser_le_left a b = go (le_or_gt a b)
  where
    go : (a ≤ℤ b) ⊎ (b <ℤ a) → lesser a b ≤ℤ a
    go (inl h) = le_of_eq (lesser_eq_left h)
    go (inr h) = omega (ints, lesser_eq_right (le_of_lt h))

pub lesser_le_right : (a b : ℤ) → lesser a b ≤ℤ b
lesser_le_right a b = go (le_or_gt a b)
  where
    go : (a ≤ℤ b) ⊎ (b <ℤ a) → lesser a b ≤ℤ b
    go (inl h) = omega (ints, lesser_eq_left h)
    go (inr h) = le_of_eq (lesser_eq_right (le_of_lt h))

pub le_lesser : {z a b : ℤ} → z ≤ℤ a → z ≤ℤ b → z ≤ℤ lesser a b
le_lesser {z} {a} {b} h k = go (lesser_one_of a b)
  where
    go : (lesser a b ≡ a) ⊎ (lesser a b ≡ b) → z ≤ℤ lesser a b
    go (inl e) = rw e h
    go (inr e) = rw e k

pub le_greater_left : (a b : ℤ) → a ≤ℤ greater a b
le_greater_left a b = go (le_or_gt a b)
  where
    go : (a ≤ℤ b) ⊎ (b <ℤ a) → a ≤ℤ greater a b
    go (inl h) = omega (ints, greater_eq_right h)
    go (inr h) = omega (ints, greater_eq_left (le_of_lt h))

pub le_greater_right : (a b : ℤ) → b ≤ℤ greater a b
le_greater_right a b = go (le_or_gt a b)
  where
    go : (a ≤ℤ b) ⊎ (b <ℤ a) → b ≤ℤ greater a b
    go (inl h) = omega (ints, greater_eq_right h)
    go (inr h) = omega (ints, greater_eq_left (le_of_lt h))

pub greater_le : {z a b : ℤ} → a ≤ℤ z → b ≤ℤ z → greater a b ≤ℤ z
greater_le {z} {a} {b} h k = go (greater_one_of a b)
  where
    go : (greater a b ≡ a) ⊎ (greater a b ≡ b) → greater a b ≤ℤ z
    go (inl e) = rw e h
    go (inr e) = rw e k
