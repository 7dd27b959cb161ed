-- The branches of a run: how the list splits at the run's own, that it has the branch boxes in slot order, and where each branch stands.
use Rattle.std.specs.Prelude.{◌≡◌, refl, List, [], ◌∷◌, ◌++◌, map, ℕ, zero, suc, ◌+◌, ◌-◌, ◌≤◌, ◌<◌, length, get_or, ℤ}
use Rattle.std.proofs.Common.{sym, ap, ◌∙◌, not-suc-le-zero, arith, get_or-append-add}
use Rattle.std.proofs.lemmas.List.{map-append, length-map, get_or_at}
use Rattle.std.proofs.Math.ListN.{get_or-append}
use Rattle.terms.specs.Run.{middle, axis, node, lefts, rights}
use Rattle.terms.specs.Box.{Box, left_box, right_box, root_box, boxes, shelf_boxes}
use Rattle.terms.specs.Branches.{Branch, node_slot, branches, shelf_branches, no_branch, branch_at}
use Rattle.theory.specs.RunParts.{left_length, right_length}
use Rattle.theory.specs.RunSides.{Side, side, at_node, on_left, on_right}
use Rattle.theory.specs.BoxFuel.{boxes_length}

-- The boxes of a run's two branches.
abbrev pub left_of : ℕ → (ℕ → ℕ → ℤ) → ℕ → List ℕ → Box → Box
left_of k at j run b = left_box b (axis k j) (at (node run) (axis k j))

abbrev pub right_of : ℕ → (ℕ → ℕ → ℤ) → ℕ → List ℕ → Box → Box
right_of k at j run b = right_box b (axis k j) (at (node run) (axis k j))

-- The branches within its left branch, and within its right branch.
abbrev pub left_branches : ℕ → ℕ → (ℕ → ℕ → ℤ) → ℕ → ℕ → List ℕ → Box → List Branch
left_branches f k at a j run b = branches f k at a (suc j) (lefts run) (left_of k at j run b)

abbrev pub right_branches : ℕ → ℕ → (ℕ → ℕ → ℤ) → ℕ → ℕ → List ℕ → Box → List Branch
right_branches f k at a j run b = branches f k at (a + (middle (length run) + 1)) (suc j) (rights run) (right_of k at j run b)

-- The run's own branch.
abbrev pub own_branch : ℕ → ℕ → List ℕ → Box → Branch
own_branch a j run b = record { depth = j; start = a; size = length run; box = b }

branches_split : (f k : ℕ) (at : ℕ → ℕ → ℤ) (a j : ℕ) (run : List ℕ) (b : Box) → 0 < length run
    → branches (suc f) k at a j run b ≡ left_branches f k at a j run b ++ own_branch a j run b ∷ right_branches f k at a j run b
unfolding branches
branches_split f k at a j [] b some = absurd (not-suc-le-zero some)
branches_split f k at a j (x ∷ xs) b some = refl

-- Each branch has the branch box of its node's slot.
pub branches_boxes : (f k : ℕ) (at : ℕ → ℕ → ℤ) (a j : ℕ) (run : List ℕ) (b : Box)
    → map (λ (c : Branch). c.box) (branches f k at a j run b) ≡ boxes f k at j run b
unfolding branches boxes
branches_boxes zero k at a j run b = refl
branches_boxes (suc f) k at a j [] b = refl
branches_boxes (suc f) k at a j (x ∷ xs) b =
    let run : List ℕ = x ∷ xs in
    map-append (λ (c : Branch). c.box) (left_branches f k at a j run b) _
    ∙ rw (
      branches_boxes f k at a (suc j) (lefts run) (left_of k at j run b),
      branches_boxes f k at (a + (middle (length run) + 1)) (suc j) (rights run) (right_of k at j run b),
    )

-- There is one for each slot.
pub branches_length : (f k : ℕ) (at : ℕ → ℕ → ℤ) (a j : ℕ) (run : List ℕ) (b : Box) → length run ≤ f → length (branches f k at a j run b) ≡ length run
branches_length f k at a j run b few =
    sym (length-map (branches f k at a j run b) (λ (c : Branch). c.box))
    ∙ ap length (branches_boxes f k at a j run b)
    ∙ boxes_length f k at j run b few

-- The branch of each slot, by the side of the node on which the slot stands.
module _ (f k : ℕ) (at : ℕ → ℕ → ℤ) (a j : ℕ) (run : List ℕ) (b : Box) (some : 0 < length run) (few : length run ≤ suc f) where
  lefts_size : length (left_branches f k at a j run b) ≡ middle (length run)
  lefts_size = branches_length f k at a (suc j) (lefts run) (left_of k at j run b) (omega (arith, left_length run)) ∙ left_length run

  split_at : (s : ℕ) → branch_at (branches (suc f) k at a j run b) s
      ≡ branch_at (left_branches f k at a j run b ++ own_branch a j run b ∷ right_branches f k at a j run b) s
  split_at s = ap (λ (bs : List Branch). branch_at bs s) (branches_split f k at a j run b some)

  pub branch_node : (s : ℕ) → s ≡ middle (length run) → branch_at (branches (suc f) k at a j run b) s ≡ own_branch a j run b
  branch_node s e = split_at s ∙ get_or_at (left_branches f k at a j run b) (own_branch a j run b) (right_branches f k at a j run b) no_branch s (lefts_size ∙ sym e)

  pub branch_left : (s : ℕ) → s < middle (length run) → branch_at (branches (suc f) k at a j run b) s ≡ branch_at (left_branches f k at a j run b) s
  branch_left s l = split_at s ∙ get_or-append (left_branches f k at a j run b) (own_branch a j run b ∷ right_branches f k at a j run b) no_branch s (omega (arith, lefts_size))

  pub branch_right : (s : ℕ) → middle (length run) < s
      → branch_at (branches (suc f) k at a j run b) s ≡ branch_at (right_branches f k at a j run b) (s - (middle (length run) + 1))
  branch_right s l =
      let e : s ≡ length (left_branches f k at a j run b) + suc (s - (middle (length run) + 1)) = omega (arith, lefts_size) in
      split_at s
      ∙ ap (λ (n : ℕ). branch_at (left_branches f k at a j run b ++ own_branch a j run b ∷ right_branches f k at a j run b) n) e
      ∙ get_or-append-add (left_branches f k at a j run b) (own_branch a j run b ∷ right_branches f k at a j run b) (suc (s - (middle (length run) + 1))) no_branch

-- A branch of the c slots from slot a on, whose node stands in the slot s places after the first.
pub record Placed (a c s : ℕ) (b : Branch) : Type 0 where
  pub from : a ≤ b.start
  pub to : b.start + b.size ≤ a + c
  pub node_in : node_slot b ≡ a + s
  pub some : 0 < b.size

-- Each branch of a run lies in the run, and its node stands in its own slot.
pub branch_placed : (f k : ℕ) (at : ℕ → ℕ → ℤ) (a j : ℕ) (run : List ℕ) (b : Box) (s : ℕ) → s < length run → length run ≤ f
    → Placed a (length run) s (branch_at (branches f k at a j run b) s)
branch_placed zero k at a j run b s l few = absurd (omega arith)
branch_placed (suc f) k at a j run b s l few =
    go
    (λ n. branch_placed f k at a (suc j) (lefts run) (left_of k at j run b) s n (omega (arith, left_length run)))
    (λ n. branch_placed f k at (a + (middle (length run) + 1)) (suc j) (rights run) (right_of k at j run b) (s - (middle (length run) + 1)) n (omega (arith, right_length run)))
    (side run s (get_or run s 0) l refl)
  where
    m : ℕ
    m = middle (length run)

    go : (s < length (lefts run) → Placed a (length (lefts run)) s (branch_at (left_branches f k at a j run b) s))
        → (s - (m + 1) < length (rights run) → Placed (a + (m + 1)) (length (rights run)) (s - (m + 1)) (branch_at (right_branches f k at a j run b) (s - (m + 1))))
        → Side run s (get_or run s 0) → Placed a (length run) s (branch_at (branches (suc f) k at a j run b) s)
    go left right (at_node e q) =
        rw (branch_node f k at a j run b (omega arith) few s e) (record { from = omega arith; to = omega arith; node_in = omega arith; some = omega arith })
    go left right (on_left n u q) =
        let p = left u in
        rw (branch_left f k at a j run b (omega arith) few s n)
        (record { from = p.from; to = omega (arith, p.to, left_length run); node_in = p.node_in; some = p.some })
    go left right (on_right n u q) =
        let p = right u in
        rw (branch_right f k at a j run b (omega arith) few s n)
        (record { from = omega (arith, p.from); to = omega (arith, p.to, right_length run); node_in = omega (arith, p.node_in); some = p.some })

-- The branches of a shelf have the branch boxes that the visits are counted by.
pub shelf_branches_boxes : (k : ℕ) (at : ℕ → ℕ → ℤ) (run : List ℕ) → map (λ (b : Branch). b.box) (shelf_branches k at run) ≡ shelf_boxes k at run
shelf_branches_boxes k at run = branches_boxes (length run) k at 0 0 run (root_box at run)
