-- The root box slot by slot. In each dimension the least so far is at most every coordinate so far, and at least all that is at most these; so it is
-- the least of them. The greatest alike, in the other order.
use Rattle.std.specs.Prelude.{◌≡◌, List, ℕ, ◌+◌, ◌≤◌, ◌<◌, length, get_or, replicate, ℤ, pos, negsuc, ◌≤ℤ◌}
use Rattle.std.proofs.Common.{not-suc-le-zero, arith, below_more}
use Rattle.std.proofs.lemmas.List.{get_or-replicate}
use Rattle.whole.specs.Choices.{AtLeast, Choice}
use Rattle.whole.proofs.Choices.{least_choice, greatest_choice}
use Rattle.terms.specs.Points.{coord, lone}
use Rattle.terms.specs.Box.{Box, root_box}
use Rattle.theory.specs.Tested.{Between}
use Rattle.theory.specs.Boxes.{Alike, dot}
use Rattle.theory.specs.BoxLaws.{held_root}
use Rattle.theory.specs.RootBoxOfSame.{root_between}
use Rattle.descent.specs.Standing.{Known}
use Rattle.descent.specs.Joined.{Joined}

-- Where there is a slot, the box is the root box of the slots.
pub record SlotsBoxed (k : ℕ) (points : List ℤ) (order : List ℕ) (b : Box) : Type 0 where
  pub alike : 0 < length order → Alike k b (root_box (coord k points) order)

-- x comes first of the start and the first i values: before each of the values, and after all that come before these and the start.
pub record Foremost (le : ℤ → ℤ → Type 0) (value : ℕ → ℤ) (start : ℤ) (i : ℕ) (x : ℤ) : Type 0 where
  pub before : (j : ℕ) → j < i → le x (value j)
  pub after : (z : ℤ) → le z start → ((j : ℕ) → j < i → le z (value j)) → le z x

foremost_none : {le : ℤ → ℤ → Type 0} {value : ℕ → ℤ} {start : ℤ} → Foremost le value start 0 start
foremost_none = record { before = λ j l. absurd (not-suc-le-zero l); after = λ z s all. s }

-- One value more.
foremost_more : {le : ℤ → ℤ → Type 0} {pick : ℤ → ℤ → ℤ} → Choice le pick → {value : ℕ → ℤ} {start : ℤ} {i : ℕ} {x : ℤ}
    → Foremost le value start i x → Foremost le value start (i + 1) (pick x (value i))
foremost_more c {value} {start} {i} {x} f = record {
  before = below_more _ i (λ j l. c.trans (c.left x (value i)) (f.before j l)) (c.right x (value i));
  after = λ z s all. c.both (f.after z s (λ j l. all j (omega arith))) (all i (omega arith));
}

-- Of all slots' coordinates on a dimension, what comes first stands in the root box.
module _ {k : ℕ} {points : List ℤ} {order : List ℕ} (known : Known k points order) (some : 0 < length order) {d : ℕ} (l : d < k) where
  range : (i : ℕ) → i < length order → Between (negsuc 32767) (coord k points (get_or order i 0) d) (pos 32767)
  range i m = (known.each i m).ranges.ranges d l

  root : {a b : ℤ} → ((i : ℕ) → i < length order → Between a (coord k points (get_or order i 0) d) b)
      → Between a ((root_box (coord k points) order).low d) b × Between a ((root_box (coord k points) order).high d) b
  root each = root_between (coord k points) d order some each

  pub foremost_low : {x : ℤ} → Foremost ◌≤ℤ◌ (λ j. coord k points (get_or order j 0) d) (pos 32767) (length order) x → x ≡ (root_box (coord k points) order).low d
  foremost_low f = least_choice.antisym
      (root (λ i m. record { from_least = f.before i m; to_greatest = (range i m).to_greatest })).0.from_least
      (f.after _ (root range).0.to_greatest (λ i m. ((held_root k (coord k points) order).each i m).least d l))

  pub foremost_high : {x : ℤ} → Foremost AtLeast (λ j. coord k points (get_or order j 0) d) (negsuc 32767) (length order) x → x ≡ (root_box (coord k points) order).high d
  foremost_high f = greatest_choice.antisym
      (root (λ i m. record { from_least = (range i m).from_least; to_greatest = f.before i m })).1.to_greatest
      (f.after _ (root range).1.from_least (λ i m. ((held_root k (coord k points) order).each i m).most d l))

-- The rows after the first i slots. No coordinate is above the start of the low row, nor below that of the high row.
pub record Spanned (k : ℕ) (points : List ℤ) (order : List ℕ) (i : ℕ) (low high : List ℤ) : Type 0 where
  pub lows : (d : ℕ) → d < k → Foremost ◌≤ℤ◌ (λ j. coord k points (get_or order j 0) d) (pos 32767) i (lone low d)
  pub highs : (d : ℕ) → d < k → Foremost AtLeast (λ j. coord k points (get_or order j 0) d) (negsuc 32767) i (lone high d)

module _ {k : ℕ} {points : List ℤ} {order : List ℕ} where
  pub spanned_none : k ≤ 4 → Spanned k points order 0 (replicate 4 (pos 32767)) (replicate 4 (negsuc 32767))
  spanned_none few = record {
    lows = λ d l. rw (get_or-replicate 4 d (pos 32767) (pos 0) (omega arith)) foremost_none;
    highs = λ d l. rw (get_or-replicate 4 d (negsuc 32767) (pos 0) (omega arith)) foremost_none;
  }

  -- The next slot's point is taken in, as a box of which it is both corners.
  pub spanned_more : {i : ℕ} {low high next_low next_high : List ℤ} {x : ℕ → ℤ} → k ≤ 4 → Spanned k points order i low high
      → ((d : ℕ) → d < k → x d ≡ coord k points (get_or order i 0) d)
      → Joined (record { low = lone low; high = lone high }) (dot x) (record { low = lone next_low; high = lone next_high })
      → Spanned k points order (i + 1) next_low next_high
  spanned_more few s same w = record {
    lows = λ d l. rw (w.lows d (omega arith), same d l) (foremost_more least_choice (s.lows d l));
    highs = λ d l. rw (w.highs d (omega arith), same d l) (foremost_more greatest_choice (s.highs d l));
  }

  -- After all slots they are the rows of the root box.
  pub spanned_all : {low high : List ℤ} → Known k points order → Spanned k points order (length order) low high
      → SlotsBoxed k points order (record { low = lone low; high = lone high })
  spanned_all known s = record {
    alike = λ some. record { lows = λ d l. foremost_low known some l (s.lows d l); highs = λ d l. foremost_high known some l (s.highs d l) };
  }
