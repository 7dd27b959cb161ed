-- The visits of a region are at most those of its faces, each alone. A box that is open for the region is open for some face alone, so each
-- slot that counts on the left counts on the right; nothing is asked of the tree.
use Rattle.std.specs.Prelude.{◌≡◌, refl, Bool, true, false, List, [], ◌∷◌, ℕ, ◌≤◌, ℤ}
use Rattle.std.proofs.Common.{ap, arith}
use Rattle.whole.specs.IndexedTotal.{total_to}
use Rattle.whole.proofs.IndexedTotal.{total_add, total_term, total_same}
use Rattle.terms.specs.Tests.{bit, count}
use Rattle.terms.specs.Box.{Box, shelf_boxes}
use Rattle.terms.specs.Region.{Region, alone, is_open}
use Rattle.terms.specs.Visits.{visits}
use Rattle.theory.specs.AboveIsUpward.{above_alone}
use Rattle.theory.specs.BoxFuel.{visits_count}
use Rattle.theory.specs.Nesting.{Open, to_open, of_open}

-- An open box is open for the face that it is not above, alone.
open_for_one : (g : Region) (b : Box) (o : Open g b) → is_open (alone g o.not_above.0) b ≡ true
open_for_one g b o =
    let a = o.not_above in
    of_open {g = alone g a.0} (record {
      not_below = λ i l. rw above_alone (o.not_below a.0 a.1);
      not_above = (0, omega arith, rw above_alone a.2);
    })

open_le_faces : (g : Region) (b : Box) → bit (is_open g b) ≤ total_to g.h (λ i. bit (is_open (alone g i) b))
open_le_faces g b = go (is_open g b) refl
  where
    go : (t : Bool) → is_open g b ≡ t → bit t ≤ total_to g.h (λ i. bit (is_open (alone g i) b))
    go true e =
        let o : Open g b = to_open e in
        let one : bit (is_open (alone g o.not_above.0) b) ≡ 1 = ap bit (open_for_one g b o) in
        omega (arith, total_term g.h (λ i. bit (is_open (alone g i) b)) o.not_above.0 o.not_above.1)
    go false e = omega arith

-- Any list of boxes.
pub open_count_le_faces : (g : Region) (bs : List Box) → count (is_open g) bs ≤ total_to g.h (λ i. count (is_open (alone g i)) bs)
unfolding count
open_count_le_faces g [] = omega arith
open_count_le_faces g (b ∷ bs) = omega (
  arith,
  open_le_faces g b,
  open_count_le_faces g bs,
  total_add g.h (λ i. bit (is_open (alone g i) b)) (λ i. count (is_open (alone g i)) bs),
)

-- "For any region, square or not, visits are at most the sum of the visits of each face taken as a region alone."
pub visits_le_faces : (g : Region) (at : ℕ → ℕ → ℤ) (run : List ℕ) → visits g at run ≤ total_to g.h (λ i. visits (alone g i) at run)
visits_le_faces g at run = omega (
  arith,
  visits_count g at run,
  open_count_le_faces g (shelf_boxes g.k at run),
  total_same g.h (λ i. visits (alone g i) at run) (λ i. count (is_open (alone g i)) (shelf_boxes g.k at run)) (λ i l. visits_count (alone g i) at run),
)
