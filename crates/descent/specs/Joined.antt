-- The least box that two boxes lie in: both lie in it, and it lies in every box that both lie in.
use Rattle.std.specs.Prelude.{◌≡◌, refl, List, ℕ, ◌+◌, ◌≤◌, ◌<◌, length, set, ℤ, pos}
use Rattle.std.proofs.Common.{◌∙◌, not-suc-le-zero, arith, length-set, get_or-set_other}
use Rattle.whole.specs.Order.{lesser, greater}
use Rattle.whole.proofs.Order.{lesser_le_left, lesser_le_right, le_lesser, le_greater_left, le_greater_right, greater_le}
use Rattle.terms.specs.Points.{lone}
use Rattle.terms.specs.Box.{Box}
use Rattle.theory.specs.Stores.{store_next}
use Rattle.theory.specs.Boxes.{Nested}

-- In each of four dimensions the lesser of the least and the greater of the greatest coordinates.
pub record Joined (a b c : Box) : Type 0 where
  pub lows : (d : ℕ) → d < 4 → c.low d ≡ lesser (a.low d) (b.low d)
  pub highs : (d : ℕ) → d < 4 → c.high d ≡ greater (a.high d) (b.high d)

module _ {k : ℕ} (few : k ≤ 4) {a b c : Box} (j : Joined a b c) where
  pub joined_first : Nested k a c
  joined_first = record {
    least = λ d l. rw (j.lows d (omega arith)) (lesser_le_left (a.low d) (b.low d));
    most = λ d l. rw (j.highs d (omega arith)) (le_greater_left (a.high d) (b.high d));
  }

  pub joined_second : Nested k b c
  joined_second = record {
    least = λ d l. rw (j.lows d (omega arith)) (lesser_le_right (a.low d) (b.low d));
    most = λ d l. rw (j.highs d (omega arith)) (le_greater_right (a.high d) (b.high d));
  }

  pub joined_least : {e : Box} → Nested k a e → Nested k b e → Nested k c e
  joined_least p q = record {
    least = λ d l. rw (j.lows d (omega arith)) (le_lesser (p.least d l) (q.least d l));
    most = λ d l. rw (j.highs d (omega arith)) (greater_le (p.most d l) (q.most d l));
  }

-- One row on the way: the places before d have what is chosen of the two rows, the others have the first's.
pub record RowTo (pick : ℤ → ℤ → ℤ) (a b : List ℤ) (d : ℕ) (row : List ℤ) : Type 0 where
  pub wide : 4 ≤ length row
  pub chosen : (e : ℕ) → e < d → lone row e ≡ pick (lone a e) (lone b e)
  pub kept : (e : ℕ) → d ≤ e → lone row e ≡ lone a e

pub row_none : {pick : ℤ → ℤ → ℤ} {a b : List ℤ} → 4 ≤ length a → RowTo pick a b 0 a
row_none wide = record { wide = wide; chosen = λ e l. absurd (not-suc-le-zero l); kept = λ e l. refl }

pub row_next : {pick : ℤ → ℤ → ℤ} {a b : List ℤ} {d : ℕ} {row : List ℤ} → d < 4 → RowTo pick a b d row → {x : ℤ} → x ≡ pick (lone row d) (lone b d)
    → RowTo pick a b (d + 1) (set row d x)
row_next {pick} {a} {b} {d} {row} l r {x} e = record {
  wide = omega (arith, length-set row d x, r.wide);
  chosen = store_next (λ e y. y ≡ pick (lone a e) (lone b e)) (pos 0) row d x (omega (arith, r.wide)) r.chosen (e ∙ rw (r.kept d (omega arith)) refl);
  kept = λ e m. get_or-set_other row d e x (pos 0) (omega arith) ∙ r.kept e (omega arith);
}
