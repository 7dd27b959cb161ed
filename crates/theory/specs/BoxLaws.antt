-- Where boxes lie: a branch's box within its parent's, the root's points in the root box.
-- A branch's box differs from its parent's in one place, so each law compares a row with the row in which that place is replaced.
use Rattle.std.specs.Prelude.{◌≡◌, refl, Bool, true, false, cond, List, [], ◌∷◌, ◌≢◌, ℕ, zero, suc, ◌<◌, length, get_or, set, ℤ, pos, ◌≤ℤ◌, eqb}
use Rattle.std.proofs.Common.{ap, not-suc-le-zero, le_of_suc-le-suc, arith, get_or-set_same, get_or-set_other, eqb-true, eq-eqb}
use Rattle.std.proofs.Math.Path.{fun_ext}
use Rattle.std.proofs.lemmas.Bool.{eqb-false}
use Rattle.whole.proofs.Order.{le_refl}
use Rattle.terms.specs.declared.CornerRows.{CornerRows}
use Rattle.terms.specs.Run.{middle, node}
use Rattle.terms.specs.Box.{Box, box_of, replaced, left_box, right_box, root_box}
use Rattle.theory.specs.LeastAndGreatest.{least_le_first, least_le_each, first_le_greatest, each_le_greatest}
use Rattle.theory.specs.Boxes.{In, Nested, Alike, Held}

-- What holds of the new value at the place and of the old row elsewhere holds of the row with that place replaced.
pub replaced_by : (P : ℕ → ℤ → Type 0) (row : ℕ → ℤ) (s : ℕ) (x : ℤ) (d : ℕ) → (d ≡ s → P d x) → (d ≢ s → P d (row d)) → P d (replaced row s x d)
replaced_by P row s x d new old = go (eqb d s) refl
  where
    go : (t : Bool) → eqb d s ≡ t → P d (cond t x (row d))
    go true e = new (eqb-true d s e)
    go false e = old (eqb-false d s e)

-- The replaced place itself.
pub replaced_same : (row : ℕ → ℤ) (s : ℕ) (x : ℤ) → replaced row s x s ≡ x
replaced_same row s x = rw (eq-eqb s s refl)

-- A branch's box lies within its parent's when the node's point lies in the parent's.
module _ {k : ℕ} {b : Box} {point : ℕ → ℤ} (w : In k b point) (s : ℕ) where
  pub left_nested : Nested k (left_box b s (point s)) b
  left_nested = record {
    least = λ d l. le_refl (b.low d);
    most = λ d l. replaced_by (λ e z. z ≤ℤ b.high e) b.high s (point s) d (λ e. rw (← e) (w.most d l)) (λ n. le_refl (b.high d));
  }

  pub right_nested : Nested k (right_box b s (point s)) b
  right_nested = record {
    least = λ d l. replaced_by (λ e z. b.low e ≤ℤ z) b.low s (point s) d (λ e. rw (← e) (w.least d l)) (λ n. le_refl (b.low d));
    most = λ d l. le_refl (b.high d);
  }

-- A box that holds a run holds its node's point; in a tree, the branches' boxes hold the branches.
pub held_node : {k : ℕ} {at : ℕ → ℕ → ℤ} {b : Box} {run : List ℕ} → Held k at b run → 0 < length run → In k b (at (node run))
held_node {run = run} w some = w.each (middle (length run)) (omega arith)

-- Boxes with the same corners hold the same runs, and their branches' boxes have the same corners.
module _ {k : ℕ} {b c : Box} (w : Alike k b c) where
  pub held_alike : {at : ℕ → ℕ → ℤ} {run : List ℕ} → Held k at b run → Held k at c run
  held_alike v = record {
    each = λ i l. record {
      least = λ d m. rw (← w.lows d m) ((v.each i l).least d m);
      most = λ d m. rw (← w.highs d m) ((v.each i l).most d m);
    };
  }

  module _ (s : ℕ) (x : ℤ) where
    pub left_alike : Alike k (left_box b s x) (left_box c s x)
    left_alike = record { lows = w.lows; highs = λ d l. ap (cond (eqb d s) x) (w.highs d l) }

    pub right_alike : Alike k (right_box b s x) (right_box c s x)
    right_alike = record { lows = λ d l. ap (cond (eqb d s) x) (w.lows d l); highs = w.highs }

-- "The root box has in each dimension the least and greatest coordinate over all points": it holds them all.
pub held_root : (k : ℕ) (at : ℕ → ℕ → ℤ) (run : List ℕ) → Held k at (root_box at run) run
unfolding root_box
held_root k at [] = record { each = λ i l. absurd (not-suc-le-zero l) }
held_root k at (p ∷ run) = record { each = each }
  where
    each : (i : ℕ) → i < length (p ∷ run) → In k (root_box at (p ∷ run)) (at (get_or (p ∷ run) i 0))
    each zero l = record { least = λ d m. least_le_first (λ q. at q d) (at p d) run; most = λ d m. first_le_greatest (λ q. at q d) (at p d) run }
    each (suc i) l = record {
      least = λ d m. least_le_each (λ q. at q d) (at p d) run i (le_of_suc-le-suc l);
      most = λ d m. each_le_greatest (λ q. at q d) (at p d) run i (le_of_suc-le-suc l);
    }

-- A store into a row replaces that place of it.
stored : (row : List ℤ) (s : ℕ) (x : ℤ) → s < length row → (λ (d : ℕ). get_or (set row s x) d (pos 0)) ≡ replaced (λ d. get_or row d (pos 0)) s x
stored row s x h = fun_ext
    (λ d.
    replaced_by (λ e z. get_or (set row s x) e (pos 0) ≡ z) (λ e. get_or row e (pos 0)) s x d
    (λ e. rw e (get_or-set_same row s x (pos 0) h))
    (λ n. get_or-set_other row s d x (pos 0) n))

-- The code's value with one entry of a row replaced stands for the branch's box.
pub left_rows : (rows : CornerRows) (s : ℕ) (x : ℤ) → s < length rows.high
    → box_of (record { low = rows.low; high = set rows.high s x }) ≡ left_box (box_of rows) s x
left_rows rows s x h = ap (λ (row : ℕ → ℤ). record { low = λ d. get_or rows.low d (pos 0); high = row }) (stored rows.high s x h)

pub right_rows : (rows : CornerRows) (s : ℕ) (x : ℤ) → s < length rows.low
    → box_of (record { low = set rows.low s x; high = rows.high }) ≡ right_box (box_of rows) s x
right_rows rows s x h = ap (λ (row : ℕ → ℤ). record { low = row; high = λ d. get_or rows.high d (pos 0) }) (stored rows.low s x h)
