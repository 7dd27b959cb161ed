-- The points of the numbers that belong, and the points after one was taken.
use Rattle.std.specs.Prelude.{Bool, List, ◌++◌, ℕ, ◌+◌, ◌*◌, take, drop, ℤ}
use Rattle.terms.specs.Tests.{every, all_to}
use Rattle.terms.specs.Points.{is_coordinate}
use Rattle.terms.specs.Tree.{members}
use Rattle.terms.specs.Live.{lowest_dead}

-- The k coordinates of a point are in range.
abbrev pub point_in_range : ℕ → (ℕ → ℤ) → Bool
point_in_range k x = all_to k (λ d. is_coordinate (x d))

-- The points of the numbers below m that belong are in range.
abbrev pub members_in_range : ℕ → (ℕ → ℕ → ℤ) → (ℕ → Bool) → ℕ → Bool
members_in_range k at belongs m = every (λ p. point_in_range k (at p)) (members belongs m)

-- The lent points with the point written at number p.
abbrev pub point_written : ℕ → List ℤ → ℕ → List ℤ → List ℤ
point_written k points p point = take (p * k) points ++ (point ++ drop (p * k + k) points)

-- The lent points after a take: the point stands at the lowest dead number.
abbrev pub taken_points : ℕ → ℕ → List ℤ → List ℕ → List ℤ → List ℤ
taken_points k n points live point = point_written k points (lowest_dead n live) point
