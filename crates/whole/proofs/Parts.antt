-- The rules here turn a fact of whole numbers into a fact of their parts and back, so that `omega` decides both.
use Rattle.std.specs.Prelude.{◌≡◌, refl, Bool, true, false, not, cond, ℕ, zero, suc, ◌+◌, ◌-◌, ◌*◌, ◌≤◌, ◌<◌, ℤ, pos, negsuc, neg_ℤ, nat_abs, ◌+ℤ◌, ◌-ℤ◌, ◌*ℤ◌, ◌≤ℤ◌, ◌<ℤ◌, T, ltb}
use Rattle.std.proofs.Common.{sym, ap, subst, arith, ltb→lt, nltb→le, leb→le, le→leb, lt→ltb}
use Rattle.std.proofs.Math.IntN.{sub_ℕ}
use Rattle.std.specs.Int.Signed.{lt_z, le_z}
use Rattle.std.proofs.Math.Dec.{nleb→lt}
use Rattle.whole.specs.Parts.{up, dn}

-- ---- the orders and equality, to the parts and back
le_to : (a b : ℤ) → T (le_z a b) → up a + dn b ≤ up b + dn a
le_to (pos a) (pos b) h = omega (arith, leb→le)
le_to (pos a) (negsuc b) h = absurd h
le_to (negsuc a) (pos b) h = omega arith
le_to (negsuc a) (negsuc b) h = omega (arith, leb→le)

le_from : (a b : ℤ) → up a + dn b ≤ up b + dn a → T (le_z a b)
le_from (pos a) (pos b) h = omega (arith, le→leb)
le_from (pos a) (negsuc b) h = omega arith
le_from (negsuc a) (pos b) h = tt
le_from (negsuc a) (negsuc b) h = omega (arith, le→leb)

lt_to : (a b : ℤ) → T (lt_z a b) → up a + dn b < up b + dn a
lt_to (pos a) (pos b) h = omega (arith, ltb→lt)
lt_to (pos a) (negsuc b) h = absurd h
lt_to (negsuc a) (pos b) h = omega arith
lt_to (negsuc a) (negsuc b) h = omega (arith, ltb→lt)

lt_from : (a b : ℤ) → up a + dn b < up b + dn a → T (lt_z a b)
lt_from (pos a) (pos b) h = omega (arith, lt→ltb)
lt_from (pos a) (negsuc b) h = omega arith
lt_from (negsuc a) (pos b) h = tt
lt_from (negsuc a) (negsuc b) h = omega (arith, lt→ltb)

eq_from : (a b : ℤ) → up a + dn b ≡ up b + dn a → a ≡ b
eq_from (pos a) (pos b) h = ap pos (omega arith)
eq_from (pos a) (negsuc b) h = absurd (omega arith)
eq_from (negsuc a) (pos b) h = absurd (omega arith)
eq_from (negsuc a) (negsuc b) h = ap negsuc (omega arith)

pub to≤ : {a b : ℤ} → a ≤ℤ b → up a + dn b ≤ up b + dn a
to≤ {a} {b} h = le_to a b h.le

pub from≤ : {a b : ℤ} → up a + dn b ≤ up b + dn a → a ≤ℤ b
from≤ {a} {b} h = record { le = le_from a b h }

pub to< : {a b : ℤ} → a <ℤ b → up a + dn b < up b + dn a
to< {a} {b} h = lt_to a b h.lt

pub from< : {a b : ℤ} → up a + dn b < up b + dn a → a <ℤ b
from< {a} {b} h = record { lt = lt_from a b h }

pub to≡ : {a b : ℤ} → a ≡ b → up a + dn b ≡ up b + dn a
to≡ e = rw e refl

pub from≡ : {a b : ℤ} → up a + dn b ≡ up b + dn a → a ≡ b
from≡ {a} {b} h = eq_from a b h

-- linear facts of whole numbers: add `sum_parts a b`, `dif_parts a b`, .. for each compound term
pub ruleset ints = (arith, to≤, from≤, to<, from<, to≡, from≡)

-- ---- the tests, to the parts and back
not_le_to : (a b : ℤ) → T (not (le_z a b)) → up b + dn a < up a + dn b
not_le_to (pos a) (pos b) h = omega (arith, nleb→lt)
not_le_to (pos a) (negsuc b) h = omega arith
not_le_to (negsuc a) (pos b) h = absurd h
not_le_to (negsuc a) (negsuc b) h = omega (arith, nleb→lt)

not_lt_to : (a b : ℤ) → T (not (lt_z a b)) → up b + dn a ≤ up a + dn b
not_lt_to (pos a) (pos b) h = omega (arith, nltb→le)
not_lt_to (pos a) (negsuc b) h = omega arith
not_lt_to (negsuc a) (pos b) h = absurd h
not_lt_to (negsuc a) (negsuc b) h = omega (arith, nltb→le)

is_true : (t : Bool) → T t → t ≡ true
is_true true h = refl
is_true false h = absurd h

is_false : (t : Bool) → (T t → ⊥) → t ≡ false
is_false true h = absurd (h tt)
is_false false h = refl

pub le_z_true : (a b : ℤ) → le_z a b ≡ true → up a + dn b ≤ up b + dn a
le_z_true a b e = le_to a b (subst T (sym e) tt)

pub le_z_false : (a b : ℤ) → le_z a b ≡ false → up b + dn a < up a + dn b
le_z_false a b e = not_le_to a b (subst (λ (t : Bool). T (not t)) (sym e) tt)

pub lt_z_true : (a b : ℤ) → lt_z a b ≡ true → up a + dn b < up b + dn a
lt_z_true a b e = lt_to a b (subst T (sym e) tt)

pub lt_z_false : (a b : ℤ) → lt_z a b ≡ false → up b + dn a ≤ up a + dn b
lt_z_false a b e = not_lt_to a b (subst (λ (t : Bool). T (not t)) (sym e) tt)

pub true_le_z : (a b : ℤ) → up a + dn b ≤ up b + dn a → le_z a b ≡ true
true_le_z a b h = is_true (le_z a b) (le_from a b h)

pub false_le_z : (a b : ℤ) → up b + dn a < up a + dn b → le_z a b ≡ false
false_le_z a b h = is_false (le_z a b) (λ t. let k : up a + dn b ≤ up b + dn a = le_to a b t in omega arith)

pub true_lt_z : (a b : ℤ) → up a + dn b < up b + dn a → lt_z a b ≡ true
true_lt_z a b h = is_true (lt_z a b) (lt_from a b h)

pub false_lt_z : (a b : ℤ) → up b + dn a ≤ up a + dn b → lt_z a b ≡ false
false_lt_z a b h = is_false (lt_z a b) (λ t. let k : up a + dn b < up b + dn a = lt_to a b t in omega arith)

-- `ints`, and the tests `le_z` and `lt_z` that a branch leaves
pub ruleset flags = (ints, le_z_true, le_z_false, lt_z_true, lt_z_false, true_le_z, false_le_z, true_lt_z, false_lt_z)

-- ---- the parts of a sum, a difference, a product
sub_by : (t : Bool) (a b : ℕ) → (T t → a < b) → (T (not t) → b ≤ a)
    → up (cond t (negsuc (b - suc a)) (pos (a - b))) + b ≡ a + dn (cond t (negsuc (b - suc a)) (pos (a - b)))
sub_by true a b f g = let h : a < b = f tt in omega arith
sub_by false a b f g = let h : b ≤ a = g tt in omega arith

sub_parts : (a b : ℕ) → up (sub_ℕ a b) + b ≡ a + dn (sub_ℕ a b)
sub_parts a b = sub_by (ltb a b) a b (ltb→lt a b) (nltb→le a b)

pub sum_parts : (a b : ℤ) → up (a +ℤ b) + (dn a + dn b) ≡ up a + up b + dn (a +ℤ b)
sum_parts (pos a) (pos b) = omega arith
sum_parts (pos a) (negsuc b) = omega (arith, sub_parts a (suc b))
sum_parts (negsuc a) (pos b) = omega (arith, sub_parts b (suc a))
sum_parts (negsuc a) (negsuc b) = omega arith

pub neg_up : (a : ℤ) → up (neg_ℤ a) ≡ dn a
neg_up (pos zero) = refl
neg_up (pos (suc n)) = refl
neg_up (negsuc n) = refl

pub neg_dn : (a : ℤ) → dn (neg_ℤ a) ≡ up a
neg_dn (pos zero) = refl
neg_dn (pos (suc n)) = refl
neg_dn (negsuc n) = refl

pub dif_parts : (a b : ℤ) → up (a -ℤ b) + (dn a + up b) ≡ up a + dn b + dn (a -ℤ b)
dif_parts a b = omega (arith, sum_parts a (neg_ℤ b), neg_up b, neg_dn b)

pub mul_parts : (a b : ℤ)
    → up (a *ℤ b) + (up a * dn b + dn a * up b) ≡ up a * up b + dn a * dn b + dn (a *ℤ b)
mul_parts (pos a) (pos b) = omega arith
mul_parts (pos a) (negsuc b) = omega (arith, neg_up (pos (a * suc b)), neg_dn (pos (a * suc b)))
mul_parts (negsuc a) (pos b) = omega (arith, neg_up (pos (suc a * b)), neg_dn (pos (suc a * b)))
mul_parts (negsuc a) (negsuc b) = omega arith

pub abs_parts : (z : ℤ) → nat_abs z ≡ (up z - dn z) + (dn z - up z)
abs_parts (pos n) = omega arith
abs_parts (negsuc n) = omega arith
