-- The summary of a shelf: the tight box of every slot as 2k numbers, the k least first, slot after slot.
use Rattle.std.specs.Prelude.{Bool, true, false, ◌&&◌, List, [], ◌∷◌, ◌++◌, map, ℕ, ℤ}
use Rattle.std.specs.Int.Signed.{le_z}
use Rattle.terms.specs.Tests.{rising}
use Rattle.terms.specs.Box.{Box}
use Rattle.terms.specs.TightBox.{shelf_tight_boxes}

-- The first k coordinates of a row.
unfoldable pub row : ℕ → (ℕ → ℤ) → List ℤ
row k coordinate = map coordinate (rising 0 k)

-- A box as 2k numbers.
abbrev pub corners : ℕ → Box → List ℤ
corners k b = row k b.low ++ row k b.high

-- Boxes one after another.
unfoldable pub corners_of : ℕ → List Box → List ℤ
corners_of k [] = []
corners_of k (b ∷ bs) = corners k b ++ corners_of k bs

-- The summary of a shelf.
abbrev pub summary : ℕ → (ℕ → ℕ → ℤ) → List ℕ → List ℤ
summary k at run = corners_of k (shelf_tight_boxes at run)

-- The two lists have the same numbers in the same places.
unfoldable pub same_numbers : List ℤ → List ℤ → Bool
same_numbers [] [] = true
same_numbers [] (y ∷ ys) = false
same_numbers (x ∷ xs) [] = false
same_numbers (x ∷ xs) (y ∷ ys) = le_z x y && le_z y x && same_numbers xs ys

-- The given list is the summary of the shelf.
abbrev pub is_summary : ℕ → (ℕ → ℕ → ℤ) → List ℕ → List ℤ → Bool
is_summary k at run given = same_numbers given (summary k at run)
