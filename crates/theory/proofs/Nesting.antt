-- Every slot below a settled branch is settled: in a tree its box lies within the branch's.
use Rattle.std.specs.Prelude.{◌≡◌, refl, true, false, List, [], ◌∷◌, ℕ, zero, suc, ℤ}
use Rattle.std.proofs.Common.{ap, arith}
use Rattle.terms.specs.Tests.{bit, count, every}
use Rattle.terms.specs.Run.{axis, node, lefts, rights}
use Rattle.terms.specs.Tree.{tree_run}
use Rattle.terms.specs.Box.{Box, boxes}
use Rattle.terms.specs.Region.{Region, is_settled, is_open}
use Rattle.theory.specs.Flags.{clash}
use Rattle.theory.specs.Counting.{count_every}
use Rattle.theory.specs.RunParts.{Parts, parts}
use Rattle.theory.specs.Boxes.{In, Held}
use Rattle.theory.specs.BoxLaws.{left_nested, right_nested, held_node}
use Rattle.theory.proofs.BoxLaws.{held_left, held_right}
use Rattle.theory.specs.BoxFuel.{count_boxes}
use Rattle.theory.specs.Nesting.{settled_nested}

-- "The count must still be the one above": below a settled branch no slot is open, so what is not walked adds nothing.
pub settled_none_open : (e f : ℕ) (g : Region) (at : ℕ → ℕ → ℤ) (j : ℕ) (run : List ℕ) (b : Box) → tree_run e g.k at j run ≡ true → Held g.k at b run
    → is_open g b ≡ false → count (is_open g) (boxes f g.k at j run b) ≡ 0
unfolding boxes count tree_run
settled_none_open e zero g at j run b t w s = refl
settled_none_open e (suc f) g at j [] b t w s = refl
settled_none_open zero (suc f) g at j (x ∷ xs) b t w s = clash t refl
settled_none_open (suc e) (suc f) g at j (x ∷ xs) b t w s =
    let p : Parts e g.k at j (x ∷ xs) = parts x xs t in
    let m : In g.k b (at (node (x ∷ xs))) = held_node w (omega arith) in
    omega (
      arith,
      count_boxes (is_open g) f g.k at j (x ∷ xs) b (omega arith),
      settled_none_open e f g at (suc j) (lefts (x ∷ xs)) _ p.left (held_left p w) (settled_nested g (left_nested m (axis g.k j)) s),
      settled_none_open e f g at (suc j) (rights (x ∷ xs)) _ p.right (held_right p w) (settled_nested g (right_nested m (axis g.k j)) s),
      ap bit s,
    )

-- Slot by slot.
pub settled_every_settled : (e f : ℕ) (g : Region) (at : ℕ → ℕ → ℤ) (j : ℕ) (run : List ℕ) (b : Box) → tree_run e g.k at j run ≡ true → Held g.k at b run
    → is_open g b ≡ false → every (is_settled g) (boxes f g.k at j run b) ≡ true
unfolding is_open
settled_every_settled e f g at j run b t w s = count_every (is_settled g) (boxes f g.k at j run b) (settled_none_open e f g at j run b t w s)
