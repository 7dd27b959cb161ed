-- The given text, and some of our own where it leaves a choice open: the definitions compute to them.
use Rattle.std.specs.Prelude.{◌≡◌, refl, [], ◌∷◌, pos, negsuc}
use Rattle.text.specs.Ascii.{ascii}
use Rattle.text.specs.Decimal.{digits_within, decimal, written}
use Rattle.text.specs.Input.{numbers, point_lines, face_lines, input_text}
use Rattle.text.specs.Answer.{items, printed, answer_text, refused_text}

-- The given input: six points and two faces.
pub input : input_text 2 6 2
    (pos 1 ∷ pos 5 ∷ pos 4 ∷ pos 2 ∷ pos 4 ∷ pos 8 ∷ pos 7 ∷ pos 1 ∷ pos 6 ∷ pos 6 ∷ pos 2 ∷ pos 2 ∷ [])
    (pos 1 ∷ pos 1 ∷ negsuc 0 ∷ pos 0 ∷ [])
    (pos 7 ∷ negsuc 5 ∷ [])
    ≡ ascii "2 6 2\n1 5\n4 2\n4 8\n7 1\n6 6\n2 2\n1 1 7\n-1 0 -6\n"
unfolding digits_within decimal written numbers point_lines face_lines input_text
input = refl

-- The given output for it.
pub output : answer_text (1 ∷ 5 ∷ 0 ∷ 2 ∷ 3 ∷ 4 ∷ []) 2 4 5 (2 ∷ 4 ∷ 3 ∷ 0 ∷ 5 ∷ 1 ∷ [])
    ≡ ascii "order 1 5 0 2 3 4\ncount 2 4 5\nlist 2 4 3 0 5 1\n"
unfolding digits_within decimal items printed answer_text
output = refl

-- The empty shelf: bare words.
pub bare : answer_text [] 0 0 0 [] ≡ ascii "order\ncount 0 0 0\nlist\n"
unfolding decimal items printed answer_text
bare = refl

-- A refusal.
pub refusal : refused_text 10 ≡ ascii "refused 10\n"
unfolding digits_within decimal items printed refused_text
refusal = refl

-- One dimension, no point, one face; numbers of ten digits, zeros inside, a last zero.
pub edges : input_text 1 0 2 [] (pos 0 ∷ negsuc 2147483647 ∷ []) (negsuc 9999999998 ∷ pos 1002003000 ∷ [])
    ≡ ascii "1 0 2\n0 -9999999999\n-2147483648 1002003000\n"
unfolding digits_within decimal written numbers point_lines face_lines input_text
edges = refl
