-- Points: a point is its coordinates by dimension; a shelf's points are lent as one list, point 0 first.
use Rattle.std.specs.Prelude.{Bool, ◌&&◌, List, ℕ, ◌+◌, ◌*◌, get_or, ℤ, pos, negsuc, ltb}
use Rattle.std.specs.Int.Signed.{le_z}
use Rattle.terms.specs.Lent.{Stock}
use Rattle.terms.specs.Live.{is_live, live_count}

-- Coordinate d of a point that is lent alone.
abbrev pub lone : List ℤ → ℕ → ℤ
lone point d = get_or point d (pos 0)

-- Coordinate d of point p of the lent points, k to a point.
abbrev pub coord : ℕ → List ℤ → ℕ → ℕ → ℤ
coord k points p d = get_or points (p * k + d) (pos 0)

-- The numbers below n.
abbrev pub below : ℕ → ℕ → Bool
below n p = ltb p n

-- Coordinate d of point p of the stock.
abbrev pub point_of : Stock → ℕ → ℕ → ℤ
point_of s = coord s.k s.points

-- A number belongs to the stock if it is below n and its live byte is 1.
abbrev pub belongs_to : Stock → ℕ → Bool
belongs_to s = is_live s.n s.live

-- How many slots the stock's shelf has: v, as many as numbers are live.
abbrev pub slots_of : Stock → ℕ
slots_of s = live_count s.n s.live

-- The number is from least to greatest, both allowed.
abbrev pub within : ℤ → ℤ → ℤ → Bool
within least greatest z = le_z least z && le_z z greatest

-- A coordinate is -32,768 to 32,767.
abbrev pub is_coordinate : ℤ → Bool
is_coordinate z = within (negsuc 32767) (pos 32767) z
