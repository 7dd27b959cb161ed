-- Slot by slot, in a tree: a tight box lies within its branch's box, so a slot that is open by its tight box is open by its branch box.
use Rattle.std.specs.Prelude.{◌≡◌, refl, Bool, true, false, List, [], ◌∷◌, ℕ, zero, suc, ◌≤◌, ◌<◌, length, get_or, ℤ}
use Rattle.std.proofs.Common.{ap, arith}
use Rattle.terms.specs.Tests.{bit, count}
use Rattle.terms.specs.Run.{lefts, rights}
use Rattle.terms.specs.Tree.{tree_run}
use Rattle.terms.specs.Box.{Box, root_box, boxes, shelf_boxes}
use Rattle.terms.specs.TightBox.{tight_boxes, shelf_tight_boxes}
use Rattle.terms.specs.Region.{Region, is_open}
use Rattle.theory.specs.Flags.{clash}
use Rattle.theory.specs.Counting.{bit_le}
use Rattle.theory.specs.RunParts.{Parts, parts}
use Rattle.theory.specs.Boxes.{Nested, Held}
use Rattle.theory.specs.BoxLaws.{held_root}
use Rattle.theory.proofs.BoxLaws.{held_left, held_right}
use Rattle.theory.specs.Nesting.{to_open, of_open, open_nested, settled_nested}
use Rattle.theory.specs.SlotBySlot.{SlotBySlot, no_more, one_more, slots_append, slot_at}
use Rattle.theory.specs.TightBoxes.{tight_nested}

-- No more of the inner boxes are open than of the outer.
open_bit : (g : Region) {inner outer : Box} → Nested g.k inner outer → bit (is_open g inner) ≤ bit (is_open g outer)
open_bit g {inner} {outer} w = go (is_open g outer) refl
  where
    go : (t : Bool) → is_open g outer ≡ t → bit (is_open g inner) ≤ bit t
    go true e = bit_le (is_open g inner)
    go false e = omega (arith, ap bit (settled_nested g w e))

pub count_nested : (g : Region) {bs cs : List Box} → SlotBySlot (Nested g.k) bs cs → count (is_open g) bs ≤ count (is_open g) cs
unfolding count
count_nested g no_more = omega arith
count_nested g (one_more n p) = omega (arith, open_bit g n, count_nested g p)

-- In a tree whose points all lie in its box.
pub tights_nested : (e f k : ℕ) (at : ℕ → ℕ → ℤ) (j : ℕ) (run : List ℕ) (b : Box) → tree_run e k at j run ≡ true → Held k at b run
    → SlotBySlot (Nested k) (tight_boxes f at run) (boxes f k at j run b)
unfolding tight_boxes boxes tree_run
tights_nested e zero k at j run b t w = no_more
tights_nested e (suc f) k at j [] b t w = no_more
tights_nested zero (suc f) k at j (x ∷ xs) b t w = clash t refl
tights_nested (suc e) (suc f) k at j (x ∷ xs) b t w =
    let p : Parts e k at j (x ∷ xs) = parts x xs t in
    slots_append
    (tights_nested e f k at (suc j) (lefts (x ∷ xs)) _ p.left (held_left p w))
    (one_more (tight_nested k at (x ∷ xs) (omega arith) w) (tights_nested e f k at (suc j) (rights (x ∷ xs)) _ p.right (held_right p w)))

-- Of a shelf.
module _ (at : ℕ → ℕ → ℤ) (run : List ℕ) where
  pub shelf_nested : (k : ℕ) → tree_run (length run) k at 0 run ≡ true → SlotBySlot (Nested k) (shelf_tight_boxes at run) (shelf_boxes k at run)
  shelf_nested k t = tights_nested (length run) (length run) k at 0 run (root_box at run) t (held_root k at run)

  pub open_slot : (g : Region) (none : Box) → tree_run (length run) g.k at 0 run ≡ true → (i : ℕ) → i < length (shelf_tight_boxes at run)
      → is_open g (get_or (shelf_tight_boxes at run) i none) ≡ true → is_open g (get_or (shelf_boxes g.k at run) i none) ≡ true
  open_slot g none t i l o = of_open (open_nested g (slot_at none (shelf_nested g.k t) i l) (to_open o))
