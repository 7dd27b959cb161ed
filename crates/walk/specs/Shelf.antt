-- The walk of a whole shelf: the root is a branch of all slots that splits on dimension 0, in the root box, and what its walk does is what the words say of the shelf.
use Rattle.std.specs.Prelude.{◌≡◌, Bool, List, [], ◌∷◌, ℕ, ◌-◌, ◌≤◌, ◌<◌, length, ℤ}
use Rattle.std.proofs.Common.{sym, ap, subst, ◌∙◌, arith}
use Rattle.std.proofs.Math.Seq.{take-length}
use Rattle.terms.specs.Tests.{count}
use Rattle.terms.specs.Lent.{faces_of}
use Rattle.terms.specs.Box.{Box, box_of, root_box, boxes, shelf_boxes}
use Rattle.terms.specs.Region.{Region, region, inside, is_open}
use Rattle.terms.specs.Visits.{visits}
use Rattle.theory.specs.Boxes.{Alike}
use Rattle.theory.specs.BoxFuel.{visits_count, visits_le_slots}
use Rattle.theory.specs.BoxesAlike.{opens_alike}
use Rattle.theory.specs.InsideAndOutside.{lists_length}
use Rattle.region.specs.Table.{Tabled, tabled, inside_tabled, open_tabled}
use Rattle.list_buffer.specs.Listed.{AllListed, listed_all}
use Rattle.descent.specs.SlotBoxes.{slot_boxes}
use Rattle.descent.specs.Root.{Rooted, boxed_root}
use Rattle.walk.specs.Walked.{Walked}
use Rattle.descent.specs.declared.runs.Run.{Run}
use Rattle.descent.specs.declared.slots.Slots.{Slots}
use Rattle.walk.specs.BranchBoxes.{GoesByBranchBox}

-- The root is a branch in its branch box.
pub root_goes : {n : Slots} {r : Run} → Rooted n.k n.points.now n.order.now (box_of r.rows) → r.start ≡ 0 → r.length ≡ length n.order.now → r.axis ≡ 0
    → GoesByBranchBox n r
root_goes rooted starts slots splits = record { standing = rw (starts, slots, splits) rooted.standing; boxed = rw (starts, slots) (boxed_root rooted) }

-- What the walk of a shelf leaves in the list and answers.
pub record ShelfWalked (g : Region) (at : ℕ → ℕ → ℤ) (order after : List ℕ) (i u : ℕ) : Type 0 where
  pub listed : AllListed (λ p. inside g (at p)) order after i
  pub visited : u ≡ visits g at order

-- As many boxes of the slots are open from the root's box as from the root box of the slots. "The empty shelf has no visits."
root_opens : (g : Region) (at : ℕ → ℕ → ℤ) (order : List ℕ) {b : Box} → (0 < length order → Alike g.k b (root_box at order))
    → count (is_open g) (boxes (length order) g.k at 0 order b) ≡ visits g at order
unfolding boxes
root_opens g at [] same = sym (visits_count g at [])
root_opens g at (x ∷ xs) same = opens_alike (length (x ∷ xs)) g at 0 (x ∷ xs) (same (omega arith)) ∙ sym (visits_count g at (x ∷ xs))

-- The root's walk is the walk of the shelf.
pub shelf_walked : {g : Region} {k : ℕ} {at : ℕ → ℕ → ℤ} {order : List ℕ} {b : Box} {list after : List ℕ} {i u : ℕ} → g.k ≡ k → (0 < length order → Alike k b (root_box at order))
    → length list ≡ length order → Walked g at order (slot_boxes k at order 0 (length order) 0 b) list after 0 0 0 i u → ShelfWalked g at order after i u
shelf_walked {g} {k} {at} {order} {b} e same size w =
    let P : ℕ → Type 0 = λ d. (0 < length order → Alike d b (root_box at order)) → count (is_open g) (boxes (length order) d at 0 order b) ≡ visits g at order in
    let opens : count (is_open g) (boxes (length order) k at 0 order b) ≡ visits g at order = subst P e (root_opens g at order) same in
    let v = rw (take-length order) at w.visits in
    record { listed = listed_all size w.listed; visited = omega (arith, v, opens) }

-- What it does by the table of the faces is what it does by the faces.
pub walked_by_faces : {k : ℕ} {normals table : List ℤ} (offsets : List ℤ) (marks : List ℕ) {at : ℕ → ℕ → ℤ} {order after : List ℕ} {i u : ℕ}
    → Tabled k normals (length offsets) table → ShelfWalked (tabled k (faces_of table offsets marks)) at order after i u
    → ShelfWalked (region k (faces_of normals offsets marks)) at order after i u
walked_by_faces {k} offsets marks {at} {order} {after} {i} t w = record {
  listed = subst (λ (test : (ℕ → ℤ) → Bool). AllListed (λ p. test (at p)) order after i) (inside_tabled offsets marks t) w.listed;
  visited =
      w.visited
      ∙ visits_count _ at order
      ∙ ap (λ (test : Box → Bool). count test (shelf_boxes k at order)) (open_tabled offsets marks t)
      ∙ sym (visits_count _ at order);
}

-- No count of the walk is over the number of slots.
pub record AtMost (n i o u : ℕ) : Type 0 where
  pub inside : i ≤ n
  pub outside : o ≤ n
  pub visited : u ≤ n

pub counts_at_most : {g : Region} {at : ℕ → ℕ → ℤ} {run after : List ℕ} {i u : ℕ} → ShelfWalked g at run after i u → AtMost (length run) i (length run - i) u
counts_at_most {g} {at} {run} w =
    let both = lists_length g at run in
    record {
      inside = omega (arith, w.listed.inside);
      outside = omega arith;
      visited = omega (arith, w.visited, visits_le_slots g at run);
    }
