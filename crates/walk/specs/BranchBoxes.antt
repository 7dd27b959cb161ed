-- The branches of a shelf that is a tree, judged by their branch boxes: they keep the laws of a walk's branches.
use Rattle.std.specs.Prelude.{◌≡◌, refl, false, List, [], ◌∷◌, ◌++◌, ℕ, ◌+◌, ◌-◌, ◌/◌, ◌<◌, ℤ}
use Rattle.std.proofs.Common.{subst, ◌∙◌, arith}
use Rattle.terms.specs.Tests.{count}
use Rattle.terms.specs.Points.{coord}
use Rattle.terms.specs.Run.{axis}
use Rattle.terms.specs.Box.{Box, box_of, left_box, right_box, boxes}
use Rattle.terms.specs.Region.{Region, is_open}
use Rattle.theory.specs.Boxes.{Alike}
use Rattle.theory.specs.BoxLaws.{left_nested, right_nested}
use Rattle.descent.specs.declared.runs.Run.{Run}
use Rattle.descent.specs.Slots.{own_of}
use Rattle.descent.specs.Standing.{Standing, standing_left, standing_right}
use Rattle.descent.specs.Boxed.{Boxed, boxed_own, boxed_left, boxed_right}
use Rattle.descent.specs.Runs.{Child}
use Rattle.descent.specs.SlotBoxes.{slot_boxes, slot_boxes_length, slot_boxes_whole}
use Rattle.descent.specs.SettledSlots.{settled_slots}
use Rattle.descent.specs.declared.slots.Slots.{Slots}
use Rattle.walk.specs.declared.branch_boxes.BranchBoxes.{BranchBoxes}
use Rattle.walk.specs.Branches.{Going, Within, BranchLaws}

-- The run is a branch of the tree, in its branch box.
pub record GoesByBranchBox (n : Slots) (r : Run) : Type 0 where
  pub standing : Standing n.k n.points.now n.order.now r.start r.length r.axis
  pub boxed : Boxed n.k (coord n.k n.points.now) n.order.now r.start r.length (box_of r.rows)

-- Its box, and the branch boxes of its slots.
abbrev pub own_box : Slots → Run → Box
own_box n r = box_of r.rows

abbrev pub branch_boxes : Slots → Run → List Box
branch_boxes n r = slot_boxes n.k (coord n.k n.points.now) n.order.now r.start r.length r.axis (box_of r.rows)

-- The node's coordinate on the dimension on which it splits.
abbrev pub split_of : Slots → Run → ℤ
split_of n r = coord n.k n.points.now (own_of n.order.now r.start r.length) r.axis

-- The run is the left branch of a branch's node, or the right one.
abbrev pub LeftOf : Slots → Run → Run → Type 0
LeftOf n r l = Child r.start (r.length / 2) (axis n.k (r.axis + 1)) (left_box (box_of r.rows) r.axis (split_of n r)) l.start l.length l.axis (box_of l.rows)

abbrev pub RightOf : Slots → Run → Run → Type 0
RightOf n r t =
    Child (r.start + r.length / 2 + 1) (r.length - r.length / 2 - 1) (axis n.k (r.axis + 1)) (right_box (box_of r.rows) r.axis (split_of n r))
    t.start t.length t.axis (box_of t.rows)

-- An empty branch has no slot, and no box.
no_boxes : (k : ℕ) (points : List ℤ) (order : List ℕ) (a c s : ℕ) (b : Box) → c ≡ 0 → slot_boxes k (coord k points) order a c s b ≡ []
unfolding boxes
no_boxes k points order a c s b e = rw e refl

-- No slot of a settled branch is open, whatever region has as many dimensions.
settled_at : (g : Region) {k : ℕ} {points : List ℤ} {order : List ℕ} {a c s : ℕ} {b : Box} → g.k ≡ k → Standing k points order a c s
    → Boxed k (coord k points) order a c b → is_open g b ≡ false → count (is_open g) (slot_boxes k (coord k points) order a c s b) ≡ 0
settled_at g {k} {points} {order} {a} {c} {s} {b} e =
    let P : ℕ → Type 0 = λ d. Standing d points order a c s → Boxed d (coord d points) order a c b → is_open g b ≡ false
    → count (is_open g) (slot_boxes d (coord d points) order a c s b) ≡ 0 in
    subst P e (λ standing boxed shut. settled_slots g standing boxed shut)

module _ (n : Slots) (r : Run) (w : GoesByBranchBox n r) where
  abbrev at : ℕ → ℕ → ℤ
  at = coord n.k n.points.now

  going : Going n.k at n.order.now r.start r.length (box_of r.rows) (branch_boxes n r)
  going = record {
    fits = w.standing.fits;
    held = w.boxed.held;
    ranges = w.boxed.ranges;
    long = slot_boxes_length n.k at n.order.now r.start r.length w.standing.fits r.axis (box_of r.rows);
    settled = λ g e shut. settled_at g e w.standing w.boxed shut;
  }

  alike : Alike n.k (box_of r.rows) (own_box n r)
  alike = record { lows = λ d l. refl; highs = λ d l. refl }

  module _ (some : 0 < r.length) where
    goes_left : (l : Run) → LeftOf n r l → GoesByBranchBox n l × Within n.k r.start (r.length / 2) (box_of r.rows) l
    goes_left l e = (
      record {
        standing = rw (e.starts, e.slots, e.splits) (standing_left w.standing some);
        boxed = rw (e.starts, e.slots, e.in_box) (boxed_left w.standing w.boxed some);
      },
      record { starts = e.starts; slots = e.slots; nested = rw e.in_box (left_nested (boxed_own w.standing w.boxed some) r.axis) },
    )

    goes_right : (t : Run) → RightOf n r t → GoesByBranchBox n t × Within n.k (r.start + r.length / 2 + 1) (r.length - r.length / 2 - 1) (box_of r.rows) t
    goes_right t e = (
      record {
        standing = rw (e.starts, e.slots, e.splits) (standing_right w.standing some);
        boxed = rw (e.starts, e.slots, e.in_box) (boxed_right w.standing w.boxed some);
      },
      record { starts = e.starts; slots = e.slots; nested = rw e.in_box (right_nested (boxed_own w.standing w.boxed some) r.axis) },
    )

    -- The boxes of the two branches of its node, as they are made on the way down.
    abbrev left_boxes : List Box
    left_boxes = slot_boxes n.k at n.order.now r.start (r.length / 2) (axis n.k (r.axis + 1)) (left_box (box_of r.rows) r.axis (split_of n r))

    abbrev right_boxes : List Box
    right_boxes =
        slot_boxes n.k at n.order.now (r.start + r.length / 2 + 1) (r.length - r.length / 2 - 1) (axis n.k (r.axis + 1)) (right_box (box_of r.rows) r.axis (split_of n r))

    split : branch_boxes n r ≡ left_boxes ++ box_of r.rows ∷ right_boxes
    split = slot_boxes_whole n.k at n.order.now r.start r.length w.standing.fits some r.axis w.standing.splits (box_of r.rows)

    whole : (l t : Run) → LeftOf n r l → RightOf n r t → branch_boxes n r ≡ branch_boxes n l ++ own_box n r ∷ branch_boxes n t
    whole l t e f = split ∙ rw (e.starts, e.slots, e.splits, e.in_box, f.starts, f.slots, f.splits, f.in_box) refl

    alone : r.length ≡ 1 → branch_boxes n r ≡ own_box n r ∷ []
    alone one =
        let lefts : left_boxes ≡ [] = no_boxes n.k n.points.now n.order.now _ (r.length / 2) _ _ (omega arith) in
        let rights : right_boxes ≡ [] = no_boxes n.k n.points.now n.order.now _ (r.length - r.length / 2 - 1) _ _ (omega arith) in
        split ∙ rw (lefts, rights) refl

pub branch_box_laws : BranchLaws {Self = BranchBoxes} (λ _. GoesByBranchBox) (λ _. own_box) (λ _. branch_boxes) (λ _. LeftOf) (λ _. RightOf)
branch_box_laws = record {
  going = λ _. going;
  alike = λ _ n r w some. alike n r w;
  left = λ _ n r l w some. goes_left n r w some l;
  right = λ _ n r t w some. goes_right n r w some t;
  whole = λ _ n r l t w some. whole n r w some l t;
  alone = λ _ n r w one. alone n r w (omega arith) one;
}
