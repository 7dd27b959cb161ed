-- Boxes: the root's, a branch's from its parent's, and the branch box of every slot of a run.
use Rattle.std.specs.Prelude.{cond, List, [], ◌∷◌, ◌++◌, ℕ, zero, suc, length, get_or, ℤ, pos, eqb}
use Rattle.whole.specs.Order.{lesser, greater}
use Rattle.terms.specs.declared.CornerRows.{CornerRows}
use Rattle.terms.specs.Run.{axis, node, lefts, rights}

-- The least and the greatest coordinate of each dimension.
pub record Box : Type 0 where
  pub low : ℕ → ℤ
  pub high : ℕ → ℤ

-- The box that the code's value with its two rows stands for.
abbrev pub box_of : CornerRows → Box
box_of rows = record { low = λ d. get_or rows.low d (pos 0); high = λ d. get_or rows.high d (pos 0) }

-- The row with its place s replaced by x.
abbrev pub replaced : (ℕ → ℤ) → ℕ → ℤ → ℕ → ℤ
replaced row s x d = cond (eqb d s) x (row d)

-- A left branch's box: the parent's, with the greatest coordinate on s replaced by the node's, x.
abbrev pub left_box : Box → ℕ → ℤ → Box
left_box b s x = record { low = b.low; high = replaced b.high s x }

-- A right branch's box: the parent's, with the least coordinate on s replaced by the node's, x.
abbrev pub right_box : Box → ℕ → ℤ → Box
right_box b s x = record { low = replaced b.low s x; high = b.high }

-- The least of a first value and the values of the numbers in a run.
unfoldable pub least_from : (ℕ → ℤ) → ℤ → List ℕ → ℤ
least_from value least [] = least
least_from value least (p ∷ run) = least_from value (lesser least (value p)) run

-- The greatest of a first value and the values of the numbers in a run.
unfoldable pub greatest_from : (ℕ → ℤ) → ℤ → List ℕ → ℤ
greatest_from value greatest [] = greatest
greatest_from value greatest (p ∷ run) = greatest_from value (greater greatest (value p)) run

-- The root box: in each dimension the least and the greatest coordinate over the numbers in the slots. An empty run has no slot that uses it.
unfoldable pub root_box : (ℕ → ℕ → ℤ) → List ℕ → Box
root_box at [] = record { low = λ d. pos 0; high = λ d. pos 0 }
root_box at (p ∷ run) = record { low = λ d. least_from (λ q. at q d) (at p d) run; high = λ d. greatest_from (λ q. at q d) (at p d) run }

-- The branch box of every slot of a run at depth j whose own box is b, in slot order. The run's length is enough for the first number.
unfoldable pub boxes : ℕ → ℕ → (ℕ → ℕ → ℤ) → ℕ → List ℕ → Box → List Box
boxes zero k at j run b = []
boxes (suc f) k at j [] b = []
boxes (suc f) k at j (x ∷ xs) b =
    let run : List ℕ = x ∷ xs in
    let s : ℕ = axis k j in
    boxes f k at (suc j) (lefts run) (left_box b s (at (node run) s)) ++ b ∷ boxes f k at (suc j) (rights run) (right_box b s (at (node run) s))

-- The branch box of every slot of a shelf.
abbrev pub shelf_boxes : ℕ → (ℕ → ℕ → ℤ) → List ℕ → List Box
shelf_boxes k at run = boxes (length run) k at 0 run (root_box at run)
