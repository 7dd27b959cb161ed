-- The points that are lent, and one of them read into a value of four places.
use Rattle.std.specs.Prelude.{◌≡◌, Bool, true, List, ℕ, suc, ◌+◌, ◌*◌, ◌≤◌, length, get_or, ℤ, pos}
use Rattle.std.proofs.Common.{ap, ◌∙◌, mul-le-mul, arith}
use Rattle.std.proofs.Math.Path.{fun_ext}
use Rattle.terms.specs.Lent.{Stock}
use Rattle.terms.specs.Points.{lone, coord, belongs_to}
use Rattle.terms.specs.Region.{Region}
use Rattle.theory.specs.StockNumbers.{stock_under}
use Rattle.theory.specs.Tested.{Coordinates, TestedPoints}
use Rattle.theory.specs.PointsAlike.{SamePoint, same_point_sym, in_same_point, inside_same_point}
use Rattle.region.specs.Live.{InsideByLive}

-- The lent points have a point p of k coordinates, in range.
pub record HasPoint (k : ℕ) (points : List ℤ) (p : ℕ) : Type 0 where
  pub few : k ≤ 4
  pub room : p * k + k ≤ length points
  pub ranges : Coordinates k (coord k points p)

-- Each number that belongs to a tested stock has its point.
pub has_point : {s : Stock} {p : ℕ} → TestedPoints s → belongs_to s p ≡ true → HasPoint s.k s.points p
has_point {s} {p} t e =
    let more : suc p * s.k ≤ s.n * s.k = mul-le-mul (stock_under s p e) (omega arith) in
    let size : length s.points ≡ s.k * s.n = t.size in
    record { few = t.few; room = omega arith; ranges = t.each p e }

-- A point that is lent alone is point 0.
pub lone_coord : (k : ℕ) (point : List ℤ) → coord k point 0 ≡ lone point
lone_coord k point = fun_ext (λ d. ap (λ (place : ℕ). get_or point place (pos 0)) (omega arith))

-- The value holds the coordinates of point p, which are in range.
pub record PointAt (k : ℕ) (points : List ℤ) (p : ℕ) (x : List ℤ) : Type 0 where
  pub same : SamePoint k (lone x) (coord k points p)
  pub ranges : Coordinates k (lone x)

-- What the live faces tell of the value they tell of the point.
pub point_told : {g : Region} {points : List ℤ} {p : ℕ} {x : List ℤ} {face : List ℕ} {count : ℕ} {answer : Bool} → PointAt g.k points p x
    → InsideByLive g face count (lone x) answer → InsideByLive g face count (coord g.k points p) answer
point_told {g} w i = record { tells = λ v l. i.tells v (in_same_point (same_point_sym w.same) l) ∙ inside_same_point g w.same }
