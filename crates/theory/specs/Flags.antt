-- What a yes or a no of a compound test says of its parts.
use Rattle.std.specs.Prelude.{◌≡◌, refl, Bool, true, false, ◌&&◌, ◌||◌, not, ◌⊎◌, ℕ}
use Rattle.std.proofs.Common.{inl, inr, arith}

-- A test is not both.
pub clash {ℓ} : {X : Type ℓ} {t : Bool} → t ≡ true → t ≡ false → X
clash p q = let z : ◌≡◌ {A = ℕ} 0 1 = cc in absurd (omega arith)

-- An implication between tests, read from the back.
pub contra : {s t : Bool} → (s ≡ true → t ≡ true) → t ≡ false → s ≡ false
contra {s = true} f e = clash (f refl) e
contra {s = false} f e = refl

-- Two tests that exclude each other.
pub exclude : {s t : Bool} → (s ≡ true → t ≡ false) → t ≡ true → s ≡ false
exclude {s = true} f e = clash e (f refl)
exclude {s = false} f e = refl

-- Two tests that imply each other are the same.
pub same_test : {s t : Bool} → (s ≡ true → t ≡ true) → (t ≡ true → s ≡ true) → s ≡ t
same_test {s = true} {t = true} f g = refl
same_test {s = true} {t = false} f g = clash (f refl) refl
same_test {s = false} {t = true} f g = clash (g refl) refl
same_test {s = false} {t = false} f g = refl

pub and_true : (s : Bool) {t : Bool} → s && t ≡ true → (s ≡ true) × (t ≡ true)
and_true true e = (refl, e)
and_true false e = clash e refl

pub true_and : {s t : Bool} → s ≡ true → t ≡ true → s && t ≡ true
true_and p q = rw (p, q)

pub and_false : (s : Bool) {t : Bool} → s && t ≡ false → (s ≡ false) ⊎ (t ≡ false)
and_false true e = inr e
and_false false e = inl refl

-- A yes on the right leaves the left, a no decides.
pub and_yes : (s : Bool) {t : Bool} → t ≡ true → s && t ≡ s
and_yes true e = e
and_yes false e = refl

pub and_no : (s : Bool) {t : Bool} → t ≡ false → s && t ≡ false
and_no true e = e
and_no false e = refl

pub or_true : (s : Bool) {t : Bool} → s || t ≡ true → (s ≡ true) ⊎ (t ≡ true)
or_true true e = inl refl
or_true false e = inr e

pub or_false : (s : Bool) {t : Bool} → s || t ≡ false → (s ≡ false) × (t ≡ false)
or_false true e = clash refl e
or_false false e = (refl, e)

pub false_or : {s t : Bool} → s ≡ false → t ≡ false → s || t ≡ false
false_or p q = rw (p, q)

pub true_or : {s : Bool} (t : Bool) → s ≡ true → s || t ≡ true
true_or t p = rw p

pub or_yes : (s : Bool) {t : Bool} → t ≡ true → s || t ≡ true
or_yes true e = refl
or_yes false e = e

pub not_true : (t : Bool) → not t ≡ true → t ≡ false
not_true true e = clash e refl
not_true false e = refl

pub not_false : (t : Bool) → not t ≡ false → t ≡ true
not_false true e = refl
not_false false e = clash refl e

pub true_not : {t : Bool} → t ≡ false → not t ≡ true
true_not p = rw p

pub false_not : {t : Bool} → t ≡ true → not t ≡ false
false_not p = rw p

pub and_assoc : (r s t : Bool) → (r && s) && t ≡ r && (s && t)
and_assoc true s t = refl
and_assoc false s t = refl

pub or_assoc : (r s t : Bool) → (r || s) || t ≡ r || (s || t)
or_assoc true s t = refl
or_assoc false s t = refl

pub or_no : (s : Bool) → s || false ≡ s
or_no true = refl
or_no false = refl
