-- Tight boxes: the least and the greatest coordinate of a branch's own points. A slot's is said of the run of its branch and of nothing else.
use Rattle.std.specs.Prelude.{List, [], ◌∷◌, ◌++◌, ℕ, zero, suc, length, ℤ}
use Rattle.terms.specs.Run.{lefts, rights}
use Rattle.terms.specs.Box.{Box, root_box}

-- The tight box of a branch with this run: the root box of the run.
abbrev pub tight_box : (ℕ → ℕ → ℤ) → List ℕ → Box
tight_box at run = root_box at run

-- The tight box of every slot of a run, in slot order. The run's length is enough for the first number.
unfoldable pub tight_boxes : ℕ → (ℕ → ℕ → ℤ) → List ℕ → List Box
tight_boxes zero at run = []
tight_boxes (suc f) at [] = []
tight_boxes (suc f) at (x ∷ xs) =
    let run : List ℕ = x ∷ xs in
    tight_boxes f at (lefts run) ++ tight_box at run ∷ tight_boxes f at (rights run)

-- The tight box of every slot of a shelf.
abbrev pub shelf_tight_boxes : (ℕ → ℕ → ℤ) → List ℕ → List Box
shelf_tight_boxes at run = tight_boxes (length run) at run
