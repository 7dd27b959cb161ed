-- Stores into a list: what stands in a place after one, a loop that fills a list from the front, one store a turn, and three places filled.
use Rattle.std.specs.Prelude.{◌≡◌, refl, ◌⊎◌, List, [], ◌∷◌, ℕ, ◌+◌, ◌<◌, length, get_or, set}
use Rattle.std.proofs.Common.{inl, inr, arith, get_or-set_same, get_or-set_other, below_more}
use Rattle.std.proofs.Math.Decide.{ℕ_discrete}

-- What stands in place d once place s holds x: x there, the old elsewhere.
abbrev pub Stored : {A : Type 0} → List A → ℕ → A → A → ℕ → Type 0
Stored xs s x z d = ((d ≡ s) × (get_or (set xs s x) d z ≡ x)) ⊎ (get_or (set xs s x) d z ≡ get_or xs d z)

pub stored : {A : Type 0} (xs : List A) (s : ℕ) (x z : A) (d : ℕ) → s < length xs → Stored xs s x z d
stored xs s x z d l = go (ℕ_discrete d s)
  where
    go : Dec (d ≡ s) → Stored xs s x z d
    go (yes e) = inl (e, rw e (get_or-set_same xs s x z l))
    go (no n) = inr (get_or-set_other xs s d x z n)

-- What holds of the first d places and of the item stored at d holds of the first d + 1 after the store.
pub store_next : {A : Type 0} (P : ℕ → A → Type 0) (z : A) (xs : List A) (d : ℕ) (v : A) → d < length xs
    → ((e : ℕ) → e < d → P e (get_or xs e z)) → P d v → (e : ℕ) → e < d + 1 → P e (get_or (set xs d v) e z)
store_next P z xs d v l all q =
    below_more
    (λ e. P e (get_or (set xs d v) e z))
    d
    (λ e m. rw (get_or-set_other xs d e v z (omega arith)) (all e m))
    (rw (get_or-set_same xs d v z l) q)

-- Three places, each stored into.
pub three_stored : {A : Type 0} (place : List A) (a b c : A) → length place ≡ 3 → set (set (set place 0 a) 1 b) 2 c ≡ a ∷ b ∷ c ∷ []
three_stored [] a b c size = absurd (omega arith)
three_stored (x ∷ []) a b c size = absurd (omega arith)
three_stored (x ∷ y ∷ []) a b c size = absurd (omega arith)
three_stored (x ∷ y ∷ z ∷ []) a b c size = refl
three_stored (x ∷ y ∷ z ∷ w ∷ place) a b c size = absurd (omega arith)
