-- A branch's points lie in its box: in a tree those of the left branch come before the node, and those of the right one after it.
use Rattle.std.specs.Prelude.{List, ℕ, ◌+◌, ◌<◌, length, ℤ, ◌≤ℤ◌}
use Rattle.std.proofs.Common.{arith}
use Rattle.terms.specs.Run.{middle, axis, node, lefts, rights}
use Rattle.terms.specs.Box.{Box, left_box, right_box}
use Rattle.theory.specs.RunParts.{Parts, left_length, right_length, left_at, right_at}
use Rattle.theory.specs.BeforeIsAnOrder.{before_le}
use Rattle.theory.specs.Boxes.{In, Held}
use Rattle.theory.specs.BoxLaws.{replaced_by}

-- A point of the box that is on the branch's side of x lies in the branch's box.
module _ {k : ℕ} {b : Box} {point : ℕ → ℤ} (w : In k b point) (s : ℕ) (x : ℤ) where
  in_left : point s ≤ℤ x → In k (left_box b s x) point
  in_left side = record {
    least = w.least;
    most = λ d l. replaced_by (λ e z. point e ≤ℤ z) b.high s x d (λ e. rw e side) (λ n. w.most d l);
  }

  in_right : x ≤ℤ point s → In k (right_box b s x) point
  in_right side = record {
    least = λ d l. replaced_by (λ e z. z ≤ℤ point e) b.low s x d (λ e. rw e side) (λ n. w.least d l);
    most = w.most;
  }

module _ {f k : ℕ} {at : ℕ → ℕ → ℤ} {j : ℕ} {b : Box} {run : List ℕ} (p : Parts f k at j run) (w : Held k at b run) where
  pub held_left : Held k at (left_box b (axis k j) (at (node run) (axis k j))) (lefts run)
  held_left = record {
    each = λ i l.
        let h : i < length run = omega (arith, left_length run) in
        in_left (rw (left_at run i l) (w.each i h)) (axis k j) _ (before_le at (axis k j) _ _ (p.before_node i l));
  }

  pub held_right : Held k at (right_box b (axis k j) (at (node run) (axis k j))) (rights run)
  held_right = record {
    each = λ i l.
        let h : middle (length run) + 1 + i < length run = omega (arith, right_length run) in
        in_right (rw (right_at run i) (w.each (middle (length run) + 1 + i) h)) (axis k j) _
        (before_le at (axis k j) _ _ (p.after_node i l));
  }
