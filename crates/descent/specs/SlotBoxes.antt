-- The branch box of every slot of a run of the order, in slot order: those of its left branch, its own, those of its right branch.
use Rattle.std.specs.Prelude.{◌≡◌, refl, List, ◌∷◌, ◌++◌, ℕ, suc, ◌+◌, ◌-◌, ◌/◌, ◌≤◌, ◌<◌, length, ℤ}
use Rattle.std.proofs.Common.{sym, ◌∙◌, mod-eq_of_lt, arith}
use Rattle.terms.specs.Run.{axis}
use Rattle.terms.specs.Box.{Box, left_box, right_box, boxes}
use Rattle.theory.specs.TreeDepth.{boxes_depth, next_depth}
use Rattle.theory.specs.BoxFuel.{boxes_split, boxes_fuel, boxes_length}
use Rattle.descent.specs.Slots.{run_of, own_of, run_length, run_node, run_lefts, run_rights}

-- The boxes of the c slots from slot a on, a branch in box b whose node splits on dimension s.
abbrev pub slot_boxes : ℕ → (ℕ → ℕ → ℤ) → List ℕ → ℕ → ℕ → ℕ → Box → List Box
slot_boxes k at order a c s b = boxes c k at s (run_of order a c) b

module _ (k : ℕ) (at : ℕ → ℕ → ℤ) (order : List ℕ) (a c : ℕ) (fits : a + c ≤ length order) where
  -- There is one box for each slot.
  pub slot_boxes_length : (s : ℕ) (b : Box) → length (slot_boxes k at order a c s b) ≡ c
  slot_boxes_length s b = let l = run_length order a c fits in boxes_length c k at s (run_of order a c) b (omega arith) ∙ l

  -- To go down further than there are slots, and the depth in place of its dimension, give the same boxes.
  deeper : (f : ℕ) → c ≤ f → (s : ℕ) (b : Box) → boxes f k at (suc s) (run_of order a c) b ≡ slot_boxes k at order a c (axis k (s + 1)) b
  deeper f few s b =
      let l = run_length order a c fits in
      boxes_fuel f c k at (suc s) (run_of order a c) b (omega arith) (omega arith)
      ∙ sym (boxes_depth c k at (axis k (s + 1)) (suc s) (run_of order a c) b (next_depth k s (axis k (s + 1)) refl))

-- The boxes of a run that is not empty.
pub slot_boxes_whole : (k : ℕ) (at : ℕ → ℕ → ℤ) (order : List ℕ) (a c : ℕ) → a + c ≤ length order → 0 < c → (s : ℕ) → s < k → (b : Box)
    → slot_boxes k at order a c s b
    ≡ slot_boxes k at order a (c / 2) (axis k (s + 1)) (left_box b s (at (own_of order a c) s))
    ++ b ∷ slot_boxes k at order (a + c / 2 + 1) (c - c / 2 - 1) (axis k (s + 1)) (right_box b s (at (own_of order a c) s))
slot_boxes_whole k at order a c fits some s splits b =
    let l = run_length order a c fits in
    let x : ℤ = at (own_of order a c) s in
    boxes_fuel c (suc c) k at s (run_of order a c) b (omega arith) (omega arith)
    ∙ boxes_split c k at s (run_of order a c) b (omega arith)
    ∙ rw (
      run_lefts order a c fits,
      run_node order a c fits some,
      run_rights order a c fits some,
      mod-eq_of_lt splits,
      deeper k at order a (c / 2) (omega arith) c (omega arith) s (left_box b s x),
      deeper k at order (a + c / 2 + 1) (c - c / 2 - 1) (omega arith) c (omega arith) s (right_box b s x),
    )
