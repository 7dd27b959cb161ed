-- A tree, and the boxes of its slots, depend on its depth only by the dimension that its node splits on: the next depth's dimension follows
-- from this one's.
use Rattle.std.specs.Prelude.{◌≡◌, refl, List, [], ◌∷◌, ℕ, zero, suc, ◌+◌, ◌%◌, ℤ}
use Rattle.std.proofs.Common.{ap, sym, ◌∙◌, add-one}
use Rattle.std.proofs.Math.Nat.{suc-mod, mod-mod}
use Rattle.terms.specs.Run.{axis, lefts, rights}
use Rattle.terms.specs.Tree.{tree_run}
use Rattle.terms.specs.Box.{Box, boxes}

next_axis : (k i j : ℕ) → axis k i ≡ axis k j → axis k (suc i) ≡ axis k (suc j)
next_axis k i j e = suc-mod i k ∙ ap (λ (d : ℕ). suc d % k) e ∙ sym (suc-mod j k)

-- Two depths that split on the same dimension ask the same of a run.
pub tree_depth : (f k : ℕ) (at : ℕ → ℕ → ℤ) (i j : ℕ) (run : List ℕ) → axis k i ≡ axis k j → tree_run f k at i run ≡ tree_run f k at j run
unfolding tree_run
tree_depth zero k at i j [] e = refl
tree_depth zero k at i j (x ∷ xs) e = refl
tree_depth (suc f) k at i j [] e = refl
tree_depth (suc f) k at i j (x ∷ xs) e =
    let n = next_axis k i j e in
    rw (e, tree_depth f k at (suc i) (suc j) (lefts (x ∷ xs)) n, tree_depth f k at (suc i) (suc j) (rights (x ∷ xs)) n)

-- They give its slots the same boxes.
pub boxes_depth : (f k : ℕ) (at : ℕ → ℕ → ℤ) (i j : ℕ) (run : List ℕ) (b : Box) → axis k i ≡ axis k j → boxes f k at i run b ≡ boxes f k at j run b
unfolding boxes
boxes_depth zero k at i j run b e = refl
boxes_depth (suc f) k at i j [] b e = refl
boxes_depth (suc f) k at i j (x ∷ xs) b e =
    let n = next_axis k i j e in
    rw (e, boxes_depth f k at (suc i) (suc j) (lefts (x ∷ xs)) _ n, boxes_depth f k at (suc i) (suc j) (rights (x ∷ xs)) _ n)

-- The dimension after s, taken for a depth, splits as the depth after s does.
pub next_depth : (k s n : ℕ) → n ≡ axis k (s + 1) → axis k n ≡ axis k (suc s)
next_depth k s n e = ap (axis k) e ∙ mod-mod (s + 1) k ∙ ap (axis k) (add-one s)
