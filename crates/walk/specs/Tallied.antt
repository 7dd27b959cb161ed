-- Room for a branch in the list and in the tally. A node adds its visit first; its left branch and its own number leave room for its right branch.
use Rattle.std.specs.Prelude.{◌≡◌, Bool, List, ℕ, ◌+◌, ◌-◌, ◌/◌, ◌≤◌, ◌<◌, length, ℤ}
use Rattle.std.proofs.Common.{◌∙◌, arith}
use Rattle.terms.specs.Box.{Box}
use Rattle.terms.specs.Region.{Region}
use Rattle.list_buffer.specs.Filled.{Placed}
use Rattle.list_buffer.specs.Listed.{listed_most}
use Rattle.walk.specs.Walked.{Walked, walked_most}

-- The list has a place for each slot, no more numbers are inside than slots are done before slot a, and the visits leave room for those of c slots.
pub record Tallied (order list : List ℕ) (a c i u : ℕ) : Type 0 where
  pub size : length list ≡ length order
  pub few : i ≤ a
  pub seen : u + c ≤ length order

module _ {order list : List ℕ} {a c i u : ℕ} (w : Tallied order list a c i u) (fits : a + c ≤ length order) (some : 0 < c) where
  pub tallied_left : Tallied order list a (c / 2) i (u + 1)
  tallied_left = record { size = w.size; few = w.few; seen = omega (arith, w.seen) }

  -- The left branch was walked.
  module _ {g : Region} {at : ℕ → ℕ → ℤ} {run : List ℕ} {slot_boxes : List Box} {first : List ℕ} {j v : ℕ}
      (left : Walked g at run slot_boxes list first a i (u + 1) j v) (slots : length run ≡ c / 2) where
    -- The node's own number has a place.
    pub tallied_own : (j ≤ a + c / 2) × (a + c / 2 < length first)
    tallied_own = (omega (arith, listed_most left.listed w.few, slots), omega (arith, left.listed.filled.size, w.size, fits))

    -- It was placed.
    pub tallied_right : {next : List ℕ} {p : ℕ} {test : Bool} {l : ℕ} → length slot_boxes ≡ c / 2 → Placed first next p test (a + c / 2) j l
        → Tallied order next (a + c / 2 + 1) (c - c / 2 - 1) l v
    tallied_right boxes q = record {
      size = q.filled.size ∙ left.listed.filled.size ∙ w.size;
      few = omega (arith, tallied_own.0, q.filled.slots, q.filled.insides);
      seen = omega (arith, w.seen, walked_most left boxes);
    }
