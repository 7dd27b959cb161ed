-- The root of a shelf: a branch of all slots that splits on dimension 0, and its box. Where none is dead the slots hold each number once, so that the root box of
-- the numbers is the root box of the slots.
use Rattle.std.specs.Prelude.{◌≡◌, Bool, true, List, [], ◌∷◌, ℕ, ◌<◌, get_or, ℤ, pos, negsuc}
use Rattle.std.proofs.Common.{sym, ap, ◌∙◌, not-suc-le-zero, arith, lt-ltb}
use Rattle.std.proofs.Math.ListN.{length}
use Rattle.std.proofs.Math.Seq.{take-length}
use Rattle.terms.specs.Tests.{rising}
use Rattle.terms.specs.Lent.{Stock, stock}
use Rattle.terms.specs.Live.{is_live}
use Rattle.terms.specs.Points.{coord, point_of, belongs_to, slots_of}
use Rattle.terms.specs.Tree.{is_tree, tree_run, each_once}
use Rattle.terms.specs.Box.{Box, root_box}
use Rattle.theory.specs.Flags.{and_true}
use Rattle.theory.specs.Counting.{same_length}
use Rattle.theory.specs.RisingNumbers.{length_rising, rising_at}
use Rattle.theory.specs.EachNumberOnce.{each_once_lem}
use Rattle.theory.specs.StockNumbers.{stock_slots, stock_full, stock_rising}
use Rattle.theory.specs.Boxes.{Held, Alike, alike_sym, alike_trans}
use Rattle.theory.specs.RootBoxOfSame.{root_of_same, root_between}
use Rattle.theory.specs.BoxLaws.{held_root, held_alike}
use Rattle.theory.specs.Tested.{Between, TestedPoints}
use Rattle.region.specs.Ranges.{BoxRanges}
use Rattle.descent.specs.Points.{HasPoint, has_point}
use Rattle.descent.specs.Standing.{Known, Standing}
use Rattle.descent.specs.Boxed.{Boxed}
use Rattle.descent.specs.SlotsBox.{SlotsBoxed}
use Rattle.descent.specs.NumbersBox.{NumbersKnown}

-- Points in range have their root box in range.
pub root_ranges : {k : ℕ} {points : List ℤ} (order : List ℕ) {b : Box} → 0 < length order → Known k points order → Alike k b (root_box (coord k points) order) → BoxRanges k b
root_ranges {k} {points} order some w same =
    record { low = record { ranges = λ d l. rw (same.lows d l) (all d l).0 }; high = record { ranges = λ d l. rw (same.highs d l) (all d l).1 } }
  where
    all : (d : ℕ) → d < k → Between (negsuc 32767) ((root_box (coord k points) order).low d) (pos 32767) × Between (negsuc 32767) ((root_box (coord k points) order).high d) (pos 32767)
    all d l = root_between (coord k points) d order some (λ i m. (w.each i m).ranges.ranges d l)

-- The root of a shelf: a branch of all slots, and its box where it has one.
pub record Rooted (k : ℕ) (points : List ℤ) (order : List ℕ) (b : Box) : Type 0 where
  pub standing : Standing k points order 0 (length order) 0
  pub alike : 0 < length order → Alike k b (root_box (coord k points) order)

module _ (s : Stock) (order : List ℕ) (t : is_tree s.k (point_of s) (belongs_to s) s.n order ≡ true) where
  once : each_once (belongs_to s) s.n order ≡ true
  unfolding is_tree
  once = (and_true (each_once (belongs_to s) s.n order) t).0

  -- Every slot of a shelf holds the number of a point.
  shelf_known : TestedPoints s → Known s.k s.points order
  shelf_known tested = record { each = λ i l. has_point tested ((each_once_lem (belongs_to s) s.n once).belong i l) }

-- The order is the shelf of a tested stock that has these points.
pub record Shelved (k n : ℕ) (points : List ℤ) (order : List ℕ) : Type 0 where
  pub live : List ℕ
  pub tested : TestedPoints (stock k n points live)
  pub shelf : is_tree k (coord k points) (is_live n live) n order ≡ true

module _ {k n : ℕ} {points : List ℤ} {order : List ℕ} (w : Shelved k n points order) where
  abbrev lent : Stock
  lent = stock k n points w.live

  pub shelved_known : Known k points order
  shelved_known = shelf_known lent order w.shelf w.tested

  pub shelved_tree : tree_run (length order) k (coord k points) 0 order ≡ true
  unfolding is_tree
  shelved_tree = (and_true (each_once (is_live n w.live) n order) w.shelf).1

  -- As many slots as numbers: all of them belong.
  full : length order ≡ n → slots_of lent ≡ n
  full e = sym (stock_slots lent order (once lent order w.shelf)) ∙ e

  -- Then each has its point,
  pub full_known : length order ≡ n → NumbersKnown k n points
  full_known e = record { some = w.tested.some; few = w.tested.few; size = w.tested.size; known = record { each = each } }
    where
      each : (i : ℕ) → i < length (rising 0 n) → HasPoint k points (get_or (rising 0 n) i 0)
      each i l =
          let low : get_or (rising 0 n) i 0 < n = omega (arith, length_rising 0 n, rising_at 0 n i 0 (omega (arith, length_rising 0 n))) in
          has_point w.tested (ap (λ (belongs : ℕ → Bool). belongs (get_or (rising 0 n) i 0)) (stock_full lent (full e)) ∙ lt-ltb _ n low)

  -- and their root box is that of the slots.
  pub full_boxed : length order ≡ n → {b : Box} → SlotsBoxed k points (rising 0 n) b → SlotsBoxed k points order b
  full_boxed e box =
      let same = stock_rising lent (full e) (once lent order w.shelf) in
      record { alike = λ some. alike_trans (box.alike (omega (arith, same_length same))) (alike_sym (root_of_same k (coord k points) same some)) }

  -- The shelf has its root, whose box is that of the slots.
  pub shelf_rooted : {b : Box} → SlotsBoxed k points order b → Rooted k points order b
  unfolding is_tree
  shelf_rooted box = record {
    standing = record {
      fits = omega arith;
      splits = w.tested.some;
      known = shelved_known;
      fuel = length order;
      tree = rw (take-length order) shelved_tree;
    };
    alike = box.alike;
  }

-- The root's box holds all its points, and is in range.
root_held : {k : ℕ} {at : ℕ → ℕ → ℤ} (order : List ℕ) {b : Box} → (0 < length order → Alike k b (root_box at order)) → Held k at b order
root_held [] same = record { each = λ i l. absurd (not-suc-le-zero l) }
root_held {k} {at} (x ∷ xs) same = held_alike (alike_sym (same (omega arith))) (held_root k at (x ∷ xs))

pub boxed_root : {k : ℕ} {points : List ℤ} {order : List ℕ} {b : Box} → Rooted k points order b → Boxed k (coord k points) order 0 (length order) b
boxed_root {order = order} r = record {
  held = rw (take-length order) (root_held order r.alike);
  ranges = λ l. root_ranges order l r.standing.known (r.alike l);
}
