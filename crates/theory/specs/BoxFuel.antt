-- The list of the branch boxes: how it splits, that the first number does not matter once it is the run's length, and the visits as a count of it.
-- Each law goes down the run as the list does: the left branch, the run's own box, the right branch.
use Rattle.std.specs.Prelude.{◌≡◌, refl, Bool, List, [], ◌∷◌, ◌++◌, ℕ, zero, suc, ◌+◌, ◌≤◌, ◌<◌, length, ℤ}
use Rattle.std.proofs.Common.{ap, ◌∙◌, not-suc-le-zero, arith, length-append}
use Rattle.terms.specs.Tests.{bit, count}
use Rattle.terms.specs.Run.{axis, node, lefts, rights}
use Rattle.terms.specs.Box.{Box, left_box, right_box, root_box, boxes, shelf_boxes}
use Rattle.terms.specs.Region.{Region, is_open}
use Rattle.terms.specs.Visits.{open_slots, visits}
use Rattle.theory.specs.Counting.{count_append, count_map, count_not}
use Rattle.theory.specs.RunParts.{left_length, right_length}

-- The boxes of a run's left branch, and of its right branch, when the run's own box is b.
abbrev pub left_boxes : ℕ → ℕ → (ℕ → ℕ → ℤ) → ℕ → List ℕ → Box → List Box
left_boxes f k at j run b = boxes f k at (suc j) (lefts run) (left_box b (axis k j) (at (node run) (axis k j)))

abbrev pub right_boxes : ℕ → ℕ → (ℕ → ℕ → ℤ) → ℕ → List ℕ → Box → List Box
right_boxes f k at j run b = boxes f k at (suc j) (rights run) (right_box b (axis k j) (at (node run) (axis k j)))

pub boxes_split : (f k : ℕ) (at : ℕ → ℕ → ℤ) (j : ℕ) (run : List ℕ) (b : Box) → 0 < length run
    → boxes (suc f) k at j run b ≡ left_boxes f k at j run b ++ b ∷ right_boxes f k at j run b
unfolding boxes
boxes_split f k at j [] b some = absurd (not-suc-le-zero some)
boxes_split f k at j (x ∷ xs) b some = refl

-- For any test on boxes, a run counts what its left branch counts, then its own box, then its right branch.
pub count_boxes : (test : Box → Bool) (f k : ℕ) (at : ℕ → ℕ → ℤ) (j : ℕ) (run : List ℕ) (b : Box) → 0 < length run
    → count test (boxes (suc f) k at j run b) ≡ count test (left_boxes f k at j run b) + (bit (test b) + count test (right_boxes f k at j run b))
unfolding count
count_boxes test f k at j run b some =
    ap (count test) (boxes_split f k at j run b some) ∙ count_append test (left_boxes f k at j run b) (b ∷ right_boxes f k at j run b)

pub boxes_fuel : (e f k : ℕ) (at : ℕ → ℕ → ℤ) (j : ℕ) (run : List ℕ) (b : Box) → length run ≤ e → length run ≤ f
    → boxes e k at j run b ≡ boxes f k at j run b
unfolding boxes
boxes_fuel zero zero k at j run b h l = refl
boxes_fuel zero (suc f) k at j [] b h l = refl
boxes_fuel zero (suc f) k at j (x ∷ xs) b h l = absurd (not-suc-le-zero h)
boxes_fuel (suc e) zero k at j [] b h l = refl
boxes_fuel (suc e) zero k at j (x ∷ xs) b h l = absurd (not-suc-le-zero l)
boxes_fuel (suc e) (suc f) k at j [] b h l = refl
boxes_fuel (suc e) (suc f) k at j (x ∷ xs) b h l =
    let m = left_length (x ∷ xs) in
    let r = right_length (x ∷ xs) in
    rw (
      boxes_fuel e f k at (suc j) (lefts (x ∷ xs)) _ (omega arith) (omega arith),
      boxes_fuel e f k at (suc j) (rights (x ∷ xs)) _ (omega arith) (omega arith),
    )

-- There is one box for each slot.
pub boxes_length : (f k : ℕ) (at : ℕ → ℕ → ℤ) (j : ℕ) (run : List ℕ) (b : Box) → length run ≤ f → length (boxes f k at j run b) ≡ length run
unfolding boxes
boxes_length zero k at j [] b h = refl
boxes_length zero k at j (x ∷ xs) b h = absurd (not-suc-le-zero h)
boxes_length (suc f) k at j [] b h = refl
boxes_length (suc f) k at j (x ∷ xs) b h =
    let m = left_length (x ∷ xs) in
    let r = right_length (x ∷ xs) in
    omega (
      arith,
      length-append (left_boxes f k at j (x ∷ xs) b) (b ∷ right_boxes f k at j (x ∷ xs) b),
      boxes_length f k at (suc j) (lefts (x ∷ xs)) (left_box b (axis k j) (at (node (x ∷ xs)) (axis k j))) (omega arith),
      boxes_length f k at (suc j) (rights (x ∷ xs)) (right_box b (axis k j) (at (node (x ∷ xs)) (axis k j))) (omega arith),
    )

-- "Otherwise it is open, and its node counts as one visit": the visits are how many of the shelf's branch boxes are open.
pub visits_count : (g : Region) (at : ℕ → ℕ → ℤ) (run : List ℕ) → visits g at run ≡ count (is_open g) (shelf_boxes g.k at run)
unfolding visits open_slots
visits_count g at run = count_map (λ t. t) (is_open g) (shelf_boxes g.k at run)

-- No more slots are open than there are.
pub visits_le_slots : (g : Region) (at : ℕ → ℕ → ℤ) (run : List ℕ) → visits g at run ≤ length run
visits_le_slots g at run = omega (
  arith,
  visits_count g at run,
  count_not (is_open g) (shelf_boxes g.k at run),
  boxes_length (length run) g.k at 0 run (root_box at run) (omega arith),
)
