-- The visits by tight boxes: they are the slots whose tight box is open, no more than there are slots, and at most the sum over the faces, each alone.
use Rattle.std.specs.Prelude.{◌≡◌, false, List, [], ◌∷◌, ℕ, ◌≤◌, length, ℤ}
use Rattle.std.proofs.Common.{arith}
use Rattle.whole.specs.IndexedTotal.{total_to}
use Rattle.whole.proofs.IndexedTotal.{total_same}
use Rattle.terms.specs.Tests.{count}
use Rattle.terms.specs.Box.{least_from, greatest_from, root_box}
use Rattle.terms.specs.TightBox.{tight_box, shelf_tight_boxes}
use Rattle.terms.specs.Region.{Region, alone, is_open}
use Rattle.terms.specs.Visits.{tight_open_slots, tight_visits}
use Rattle.theory.specs.Counting.{count_map, count_not}
use Rattle.theory.specs.Containment.{dot_settled}
use Rattle.theory.specs.SumBound.{open_count_le_faces}
use Rattle.theory.specs.TightBoxes.{tights_length}

-- "Its visits are the slots whose tight box is open."
pub tight_visits_count : (g : Region) (at : ℕ → ℕ → ℤ) (run : List ℕ) → tight_visits g at run ≡ count (is_open g) (shelf_tight_boxes at run)
unfolding tight_visits tight_open_slots
tight_visits_count g at run = count_map (λ t. t) (is_open g) (shelf_tight_boxes at run)

-- No more slots are open than there are.
pub tight_visits_le_slots : (g : Region) (at : ℕ → ℕ → ℤ) (run : List ℕ) → tight_visits g at run ≤ length run
tight_visits_le_slots g at run = omega (
  arith,
  tight_visits_count g at run,
  count_not (is_open g) (shelf_tight_boxes at run),
  tights_length (length run) at run (omega arith),
)

-- They "are at most the sum of the visits of each face taken as a region alone", those by tight boxes too; this asks nothing of the tree.
pub tight_visits_le_faces : (g : Region) (at : ℕ → ℕ → ℤ) (run : List ℕ) → tight_visits g at run ≤ total_to g.h (λ i. tight_visits (alone g i) at run)
tight_visits_le_faces g at run = omega (
  arith,
  tight_visits_count g at run,
  open_count_le_faces g (shelf_tight_boxes at run),
  total_same g.h (λ i. tight_visits (alone g i) at run) (λ i. count (is_open (alone g i)) (shelf_tight_boxes at run)) (λ i l. tight_visits_count (alone g i) at run),
)

-- A slot that is alone in its branch is never open: its tight box is its point.
pub alone_settled : (g : Region) (at : ℕ → ℕ → ℤ) (run : List ℕ) → length run ≡ 1 → is_open g (tight_box at run) ≡ false
unfolding root_box least_from greatest_from
alone_settled g at [] e = absurd (omega arith)
alone_settled g at (p ∷ []) e = dot_settled g (at p)
alone_settled g at (p ∷ q ∷ run) e = absurd (omega arith)
