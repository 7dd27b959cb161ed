-- A loop that fills four places, of which those below k count and the others stay 0, so that its length is the same for every k.
-- What it has filled after d turns: a place below k is one more, a later one changes nothing.
use Rattle.std.specs.Prelude.{◌≡◌, refl, List, [], ◌∷◌, ℕ, zero, suc, ◌+◌, ◌≤◌, ◌<◌, length, get_or, set, ℤ, pos}
use Rattle.std.proofs.Common.{◌∙◌, arith, length-set, get_or-set_other}
use Rattle.terms.specs.Points.{lone}
use Rattle.theory.specs.Stores.{store_next}
use Rattle.theory.specs.PointsAlike.{SamePoint}

-- Those of the first d places that are below k hold the value's, and those from k on hold 0.
pub record FilledTo (k : ℕ) (value : ℕ → ℤ) (d : ℕ) (places : List ℤ) : Type 0 where
  pub turns : d ≤ 4
  pub long : length places ≡ 4
  pub same : (e : ℕ) → e < d → e < k → get_or places e (pos 0) ≡ value e
  pub rest : (e : ℕ) → k ≤ e → e < 4 → get_or places e (pos 0) ≡ pos 0

-- Before the first turn all four are 0.
pub filled_none : (k : ℕ) (value : ℕ → ℤ) → FilledTo k value 0 (pos 0 ∷ pos 0 ∷ pos 0 ∷ pos 0 ∷ [])
filled_none k value = record { turns = omega arith; long = refl; same = λ e l. absurd (omega arith); rest = λ e l m. zeros e }
  where
    zeros : (e : ℕ) → get_or (pos 0 ∷ pos 0 ∷ pos 0 ∷ pos 0 ∷ []) e (pos 0) ≡ pos 0
    zeros zero = refl
    zeros (suc zero) = refl
    zeros (suc (suc zero)) = refl
    zeros (suc (suc (suc zero))) = refl
    zeros (suc (suc (suc (suc e)))) = refl

module _ {k : ℕ} {value : ℕ → ℤ} {d : ℕ} {places : List ℤ} (f : FilledTo k value d places) where
  pub filled_next : d < 4 → d < k → (z : ℤ) → z ≡ value d → FilledTo k value (d + 1) (set places d z)
  filled_next l n z q = record {
    turns = omega arith;
    long = length-set places d z ∙ f.long;
    same = store_next (λ e v. (e < k → v ≡ value e)) (pos 0) places d z (omega arith) f.same (λ m. q);
    rest = λ e m o. get_or-set_other places d e z (pos 0) (omega arith) ∙ f.rest e m o;
  }

  pub filled_over : d < 4 → k ≤ d → FilledTo k value (d + 1) places
  filled_over l m = record { turns = omega arith; long = f.long; same = λ e n o. f.same e (omega arith) o; rest = f.rest }

  pub filled_all : k ≤ 4 → 4 ≤ d → SamePoint k (lone places) value
  filled_all m l = record { same = λ e n. f.same e (omega arith) n }
