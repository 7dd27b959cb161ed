-- The text that the program reads: how numbers are written into it, which numbers it admits, and when a text is accepted.
use Rattle.std.specs.Prelude.{◌≡◌, Bool, true, List, [], ◌∷◌, ◌++◌, ℕ, zero, suc, ◌*◌, ◌≤◌, length, take, drop, ℤ, pos, negsuc, nat_abs, leb}
use Rattle.terms.specs.Tests.{every}
use Rattle.terms.specs.Points.{within}
use Rattle.text.specs.Decimal.{decimal, written}

-- The byte that ends a line.
abbrev pub newline : ℕ
newline = 10

-- The byte between two numbers of a line.
abbrev pub space : ℕ
space = 32

-- The byte behind a number: a space if others follow on the line, else a newline.
abbrev pub behind : List ℤ → ℕ
behind [] = newline
behind (y ∷ ys) = space

-- Numbers with a byte behind each, which may depend on the numbers that follow.
unfoldable pub numbers : (List ℤ → ℕ) → List ℤ → List ℕ
numbers stop [] = []
numbers stop (x ∷ xs) = written x ++ (stop xs ∷ numbers stop xs)

-- A line of numbers: one space between, a newline behind the last.
abbrev pub line : List ℤ → List ℕ
line xs = numbers behind xs

-- The lines of n points, k coordinates each.
unfoldable pub point_lines : ℕ → ℕ → List ℤ → List ℕ
point_lines k zero points = []
point_lines k (suc n) points = line (take k points) ++ point_lines k n (drop k points)

-- The lines of h faces, k components and the offset each.
unfoldable pub face_lines : ℕ → ℕ → List ℤ → List ℤ → List ℕ
face_lines k zero normals offsets = []
face_lines k (suc h) normals offsets = line (take k normals ++ take 1 offsets) ++ face_lines k h (drop k normals) (drop 1 offsets)

-- The whole text: the line k n h, the points, the faces.
unfoldable pub input_text : ℕ → ℕ → ℕ → List ℤ → List ℤ → List ℤ → List ℕ
input_text k n h points normals offsets =
    line (pos k ∷ pos n ∷ pos h ∷ []) ++ (point_lines k n points ++ face_lines k h normals offsets)

-- A coordinate or a component lies within 32 signed bits.
abbrev pub is_signed32 : ℤ → Bool
is_signed32 z = within (negsuc 2147483647) (pos 2147483647) z

-- A number has at most ten digits.
unfoldable pub is_short : ℤ → Bool
is_short z = leb (length (decimal (nat_abs z))) 10

-- The numbers that a text may have. That the others have at most ten digits too follows from their ranges.
pub record Admitted (k n h : ℕ) (points normals offsets : List ℤ) : Type 0 where
  pub some : 1 ≤ k
  pub few : k ≤ 9
  pub points_few : n ≤ 512
  pub faces_few : h ≤ 64
  pub points_size : length points ≡ k * n
  pub normals_size : length normals ≡ k * h
  pub offsets_size : length offsets ≡ h
  pub points_range : every is_signed32 points ≡ true
  pub normals_range : every is_signed32 normals ≡ true
  pub offsets_range : every is_short offsets ≡ true
  pub text_size : length (input_text k n h points normals offsets) ≤ 32768

-- A text says these numbers: they are admitted, and the text is their writing. A text that says some numbers is accepted.
pub record Says (text : List ℕ) (k n h : ℕ) (points normals offsets : List ℤ) : Type 0 where
  pub admitted : Admitted k n h points normals offsets
  pub is_written : text ≡ input_text k n h points normals offsets
