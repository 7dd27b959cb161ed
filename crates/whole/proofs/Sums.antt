-- Sums and differences of whole numbers, and how the order goes with them.
use Rattle.std.specs.Prelude.{◌≡◌, refl, Bool, true, false, not, ℤ, pos, neg_ℤ, ◌+ℤ◌, ◌-ℤ◌, ◌≤ℤ◌}
use Rattle.std.specs.Int.Signed.{le_z, lt_z}
use Rattle.whole.proofs.Parts.{ints, flags, sum_parts, dif_parts, neg_up, neg_dn}

pub add_comm : (a b : ℤ) → a +ℤ b ≡ b +ℤ a
add_comm a b = omega (ints, sum_parts a b, sum_parts b a)

pub add_assoc : (a b c : ℤ) → (a +ℤ b) +ℤ c ≡ a +ℤ (b +ℤ c)
add_assoc a b c =
    omega (ints, sum_parts a b, sum_parts (a +ℤ b) c, sum_parts b c, sum_parts a (b +ℤ c))

pub add_zero : (a : ℤ) → a +ℤ pos 0 ≡ a
add_zero a = omega (ints, sum_parts a (pos 0))

pub zero_add : (a : ℤ) → pos 0 +ℤ a ≡ a
zero_add a = omega (ints, sum_parts (pos 0) a)

pub dif_self : (a : ℤ) → a -ℤ a ≡ pos 0
dif_self a = omega (ints, dif_parts a a)

pub dif_zero : (a : ℤ) → a -ℤ pos 0 ≡ a
dif_zero a = omega (ints, dif_parts a (pos 0))

pub dif_add_cancel : (a b : ℤ) → (a -ℤ b) +ℤ b ≡ a
dif_add_cancel a b = omega (ints, dif_parts a b, sum_parts (a -ℤ b) b)

pub add_dif_cancel : (a b : ℤ) → (a +ℤ b) -ℤ b ≡ a
add_dif_cancel a b = omega (ints, sum_parts a b, dif_parts (a +ℤ b) b)

pub neg_neg : (a : ℤ) → neg_ℤ (neg_ℤ a) ≡ a
neg_neg a = omega (ints, neg_up a, neg_dn a, neg_up (neg_ℤ a), neg_dn (neg_ℤ a))

pub neg_le_neg : {a b : ℤ} → a ≤ℤ b → neg_ℤ b ≤ℤ neg_ℤ a
neg_le_neg {a} {b} h = omega (ints, neg_up a, neg_dn a, neg_up b, neg_dn b)

-- what is tested of two numbers is tested of the negated ones the other way round
pub neg_le_z : (a b : ℤ) → le_z (neg_ℤ a) (neg_ℤ b) ≡ not (lt_z a b)
neg_le_z a b = go (lt_z a b) refl
  where
    go : (t : Bool) → lt_z a b ≡ t → le_z (neg_ℤ a) (neg_ℤ b) ≡ not t
    go true e = omega (flags, neg_up a, neg_dn a, neg_up b, neg_dn b)
    go false e = omega (flags, neg_up a, neg_dn a, neg_up b, neg_dn b)

pub neg_lt_z : (a b : ℤ) → lt_z (neg_ℤ a) (neg_ℤ b) ≡ not (le_z a b)
neg_lt_z a b = go (le_z a b) refl
  where
    go : (t : Bool) → le_z a b ≡ t → lt_z (neg_ℤ a) (neg_ℤ b) ≡ not t
    go true e = omega (flags, neg_up a, neg_dn a, neg_up b, neg_dn b)
    go false e = omega (flags, neg_up a, neg_dn a, neg_up b, neg_dn b)

pub neg_sum : (a b : ℤ) → neg_ℤ (a +ℤ b) ≡ neg_ℤ a +ℤ neg_ℤ b
neg_sum a b = omega (
  ints,
  sum_parts a b,
  sum_parts (neg_ℤ a) (neg_ℤ b),
  neg_up a,
  neg_dn a,
  neg_up b,
  neg_dn b,
  neg_up (a +ℤ b),
  neg_dn (a +ℤ b),
)

pub add_mono : {a b c d : ℤ} → a ≤ℤ b → c ≤ℤ d → (a +ℤ c) ≤ℤ (b +ℤ d)
add_mono {a} {b} {c} {d} h k = omega (ints, sum_parts a c, sum_parts b d)

pub dif_mono : {a b c d : ℤ} → a ≤ℤ b → d ≤ℤ c → (a -ℤ c) ≤ℤ (b -ℤ d)
dif_mono {a} {b} {c} {d} h k = omega (ints, dif_parts a c, dif_parts b d)

-- a term that both sides have can go
pub add_cancel : (a b c : ℤ) → (a +ℤ c) ≤ℤ (b +ℤ c) → a ≤ℤ b
add_cancel a b c h = omega (ints, sum_parts a c, sum_parts b c)

-- the greater less the lesser is not negative
pub le_dif : {a b : ℤ} → a ≤ℤ b → pos 0 ≤ℤ (b -ℤ a)
le_dif {a} {b} h = omega (ints, dif_parts b a)

-- where b less a is not negative, a is at most b
pub dif_le : (a b : ℤ) → pos 0 ≤ℤ (b -ℤ a) → a ≤ℤ b
dif_le a b h = omega (ints, dif_parts b a)
