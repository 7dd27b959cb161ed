-- The text that the program prints.
use Rattle.std.specs.Prelude.{List, [], ◌∷◌, ◌++◌, ℕ}
use Rattle.text.specs.Ascii.{ascii}
use Rattle.text.specs.Decimal.{decimal}
use Rattle.text.specs.Input.{newline, space}

-- Each number with a space in front.
unfoldable pub items : List ℕ → List ℕ
items [] = []
items (x ∷ xs) = (space ∷ decimal x) ++ items xs

-- A printed line: a word, then numbers.
unfoldable pub printed : List ℕ → List ℕ → List ℕ
printed word xs = word ++ (items xs ++ (newline ∷ []))

-- What is printed when the calls are done: the slots; inside, outside and visits; the places of the list.
unfoldable pub answer_text : List ℕ → ℕ → ℕ → ℕ → List ℕ → List ℕ
answer_text order inside outside visits list =
    printed (ascii "order") order ++ (printed (ascii "count") (inside ∷ outside ∷ visits ∷ []) ++ printed (ascii "list") list)

-- What is printed on a refusal.
unfoldable pub refused_text : ℕ → List ℕ
refused_text number = printed (ascii "refused") (number ∷ [])
