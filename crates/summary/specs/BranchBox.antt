-- A branch's tight box from its node's point and its two branches' boxes: it holds the whole run, and lies in the run's tight box since all that was joined does.
use Rattle.std.specs.Prelude.{◌≡◌, refl, List, ℕ, ◌+◌, ◌-◌, ◌/◌, ◌≤◌, ◌<◌, length, get_or, ℤ}
use Rattle.std.proofs.Common.{◌∙◌, arith}
use Rattle.std.proofs.Math.Decide.{dec_lt}
use Rattle.whole.proofs.Order.{le_refl, le_trans, le_antisym}
use Rattle.terms.specs.Points.{coord}
use Rattle.terms.specs.Run.{middle, node, lefts, rights}
use Rattle.terms.specs.Box.{Box}
use Rattle.terms.specs.TightBox.{tight_box}
use Rattle.theory.specs.PointsAlike.{SamePoint}
use Rattle.theory.specs.RunParts.{left_length, right_length, left_at, right_at}
use Rattle.theory.specs.Boxes.{In, Nested, Alike, Held, dot, alike_sym, alike_nested, nested_trans}
use Rattle.theory.specs.BoxLaws.{held_root, held_node, held_alike}
use Rattle.theory.specs.TightBoxes.{tight_nested, left_tight_nested, right_tight_nested}
use Rattle.region.specs.Ranges.{BoxRanges}
use Rattle.descent.specs.Standing.{Known}
use Rattle.descent.specs.Root.{root_ranges}
use Rattle.summary.specs.Stored.{HasBox, BoxAt, Stands, stands_read, stands_alike}
use Rattle.descent.specs.Joined.{Joined, joined_first, joined_second, joined_least}

-- What a box holds a larger box holds.
held_nested : {k : ℕ} {at : ℕ → ℕ → ℤ} {inner outer : Box} {run : List ℕ} → Nested k inner outer → Held k at inner run → Held k at outer run
held_nested n w = record {
  each = λ i l. record { least = λ d m. le_trans (n.least d m) ((w.each i l).least d m); most = λ d m. le_trans ((w.each i l).most d m) (n.most d m) };
}

-- A box that holds the left branch, the node's point and the right branch holds the run.
module _ {k : ℕ} {at : ℕ → ℕ → ℤ} {b : Box} {run : List ℕ} (left : Held k at b (lefts run)) (own : In k b (at (node run))) (right : Held k at b (rights run)) where
  held_around : Held k at b run
  held_around = record { each = λ i l. go i l (dec_lt i (middle (length run))) (dec_lt (middle (length run)) i) }
    where
      go : (i : ℕ) → i < length run → Dec (i < middle (length run)) → Dec (middle (length run) < i) → In k b (at (get_or run i 0))
      go i l (yes p) q =
          let m : i < length (lefts run) = omega (arith, left_length run) in
          rw (left_at run i m) at (left.each i m)
      go i l (no p) (yes q) =
          let j : ℕ = i - (middle (length run) + 1) in
          let e : middle (length run) + 1 + j ≡ i = omega arith in
          rw e at (rw (right_at run j) at (right.each j (omega (arith, right_length run))))
      go i l (no p) (no q) = let e : middle (length run) ≡ i = omega arith in rw e at own

-- A box that holds a run and lies in its tight box is the tight box.
tightest : (k : ℕ) (at : ℕ → ℕ → ℤ) (run : List ℕ) {b : Box} → 0 < length run → Held k at b run → Nested k b (tight_box at run) → Alike k b (tight_box at run)
tightest k at run some held n =
    let t = tight_nested k at run some held in
    record { lows = λ d l. le_antisym (t.least d l) (n.least d l); highs = λ d l. le_antisym (n.most d l) (t.most d l) }

-- What holds of every slot's number holds of those of both branches.
module _ {k : ℕ} {points : List ℤ} {order : List ℕ} (w : Known k points order) where
  pub known_left : Known k points (lefts order)
  known_left = record { each = λ i l. rw (left_at order i l) (w.each i (omega (arith, left_length order))) }

  pub known_right : Known k points (rights order)
  known_right = record { each = λ i l. rw (right_at order i) (w.each _ (omega (arith, right_length order))) }

-- The summary has the boxes of the two branches of these slots.
pub record BranchesStored (k : ℕ) (points : List ℤ) (order : List ℕ) (S : List ℤ) : Type 0 where
  pub few : k ≤ 4
  pub many : length order ≤ 65535
  pub some : 0 < length order
  pub known : Known k points order
  pub left : 0 < length (lefts order) → Stands k S (length (lefts order) / 2) (tight_box (coord k points) (lefts order))
  pub right : 0 < length (rights order) → Stands k S (middle (length order) + 1 + length (rights order) / 2) (tight_box (coord k points) (rights order))

module _ {k : ℕ} {points : List ℤ} (order : List ℕ) {S : List ℤ} (w : BranchesStored k points order S) where
  abbrev at : ℕ → ℕ → ℤ
  at = coord k points

  ranges : (run : List ℕ) → 0 < length run → Known k points run → BoxRanges k (tight_box at run)
  ranges run some known = root_ranges run some known (record { lows = λ d l. refl; highs = λ d l. refl })

  module _ (two : 1 < length order) where
    left_some : 0 < length (lefts order)
    left_some = omega (arith, left_length order)

    left_stands : Stands k S (length order / 2 / 2) (tight_box at (lefts order))
    left_stands = rw (left_length order) at (w.left left_some)

    -- The left branch's box can be read.
    pub left_read : HasBox k S (length order / 2 / 2)
    left_read = stands_read left_stands w.few (omega (arith, w.many)) (ranges (lefts order) left_some (known_left w.known))

  module _ (three : 2 < length order) where
    right_some : 0 < length (rights order)
    right_some = omega (arith, right_length order)

    right_slots : length (rights order) ≡ length order - length order / 2 - 1
    right_slots = right_length order ∙ omega arith

    right_stands : Stands k S (length order / 2 + 1 + (length order - length order / 2 - 1) / 2) (tight_box at (rights order))
    right_stands = rw right_slots at (w.right right_some)

    -- The right branch's box can be read.
    pub right_read : HasBox k S (length order / 2 + 1 + (length order - length order / 2 - 1) / 2)
    right_read = stands_read right_stands w.few (omega (arith, w.many)) (ranges (rights order) right_some (known_right w.known))

  -- The node's point as a box, x.
  module _ {x : ℕ → ℤ} (same : SamePoint k x (at (node order))) where
    own_in : {b : Box} → Nested k (dot x) b → In k b (at (node order))
    own_in n = record { least = λ d l. rw (same.same d l) at (n.least d l); most = λ d l. rw (same.same d l) at (n.most d l) }

    own_within : Nested k (dot x) (tight_box at order)
    own_within =
        let p : In k (tight_box at order) (at (node order)) = held_node (held_root k at order) w.some in
        record { least = λ d l. rw (same.same d l) (p.least d l); most = λ d l. rw (same.same d l) (p.most d l) }

    no_slots : {b : Box} (run : List ℕ) → length run ≡ 0 → Held k at b run
    no_slots run e = record { each = λ i l. absurd (omega arith) }

    -- A node alone in its branch.
    pub box_alone : length order ≡ 1 → Alike k (dot x) (tight_box at order)
    box_alone one =
        tightest k at order w.some
        (held_around
        (no_slots (lefts order) (omega (arith, left_length order)))
        (own_in (record { least = λ d l. le_refl (x d); most = λ d l. le_refl (x d) }))
        (no_slots (rights order) (omega (arith, right_length order))))
        own_within

    -- With the left branch's box.
    module _ (two : 1 < length order) {l h : Box} (read : BoxAt k S (length order / 2 / 2) l) (j : Joined (dot x) l h) where
      left_alike : Alike k l (tight_box at (lefts order))
      left_alike = stands_alike (left_stands two) read

      half_left : Held k at h (lefts order)
      half_left = held_nested (joined_second w.few j) (held_alike (alike_sym left_alike) (held_root k at (lefts order)))

      half_own : Nested k (dot x) h
      half_own = joined_first w.few j

      half_within : Nested k h (tight_box at order)
      half_within = joined_least w.few j own_within (nested_trans (alike_nested left_alike) (left_tight_nested k at order (left_some two)))

      pub box_half : length order ≡ 2 → Alike k h (tight_box at order)
      box_half e =
          tightest k at order w.some (held_around half_left (own_in half_own) (no_slots (rights order) (omega (arith, right_length order)))) half_within

      -- With both branches' boxes.
      pub box_whole : (three : 2 < length order) {r b : Box} → BoxAt k S (length order / 2 + 1 + (length order - length order / 2 - 1) / 2) r → Joined h r b
          → Alike k b (tight_box at order)
      box_whole three {r} also i =
          let same-right : Alike k r (tight_box at (rights order)) = stands_alike (right_stands three) also in
          let first = joined_first w.few i in
          tightest k at order w.some
          (held_around
          (held_nested first half_left)
          (own_in (nested_trans half_own first))
          (held_nested (joined_second w.few i) (held_alike (alike_sym same-right) (held_root k at (rights order)))))
          (joined_least w.few i half_within (nested_trans (alike_nested same-right) (right_tight_nested k at order (right_some three))))
