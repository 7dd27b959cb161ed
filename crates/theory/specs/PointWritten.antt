-- The lent points after one was written: place by place, and point by point. Only the coordinates of the number written at are new.
use Rattle.std.specs.Prelude.{◌≡◌, ◌≢◌, List, ◌++◌, ℕ, ◌+◌, ◌-◌, ◌*◌, ◌≤◌, ◌<◌, length, get_or, take, drop, ℤ, pos}
use Rattle.std.proofs.Common.{◌∙◌, mul-le-mul_right, arith, length-append, length-drop, length-take-le, get_or-append-add, get_or-take, get_or-drop}
use Rattle.std.proofs.Math.Decide.{dec_lt}
use Rattle.std.proofs.Math.ListN.{get_or-append}
use Rattle.terms.specs.Points.{coord, lone}
use Rattle.terms.specs.LivePoints.{point_written}

module _ (k : ℕ) (points : List ℤ) (p : ℕ) (point : List ℤ) (size : length point ≡ k) (room : p * k + k ≤ length points) where
  abbrev before : List ℤ
  before = take (p * k) points

  abbrev after : List ℤ
  after = drop (p * k + k) points

  before_length : length before ≡ p * k
  before_length = length-take-le (p * k) points (omega arith)

  -- As many coordinates are lent as before.
  pub written_length : length (point_written k points p point) ≡ length points
  written_length =
      omega (arith, length-append before (point ++ after), length-append point after, before_length, length-drop (p * k + k) points)

  -- The number written at has the point.
  pub written_here : (d : ℕ) → d < k → coord k (point_written k points p point) p d ≡ lone point d
  written_here d l =
      let place : p * k + d ≡ length before + d = omega (arith, before_length) in
      rw place (get_or-append-add before (point ++ after) d (pos 0) ∙ get_or-append point after (pos 0) d (omega arith))

  -- The places before and after are as they were.
  lower : (u : ℕ) → u < p * k → get_or (point_written k points p point) u (pos 0) ≡ get_or points u (pos 0)
  lower u l = get_or-append before (point ++ after) (pos 0) u (omega (arith, before_length)) ∙ get_or-take (p * k) points u (pos 0) l

  higher : (e : ℕ) → get_or (point_written k points p point) (p * k + k + e) (pos 0) ≡ get_or points (p * k + k + e) (pos 0)
  higher e =
      let place : p * k + k + e ≡ length before + (length point + e) = omega (arith, before_length) in
      let back : length before + (length point + e) ≡ p * k + k + e = omega (arith, before_length) in
      rw place (get_or-append-add before (point ++ after) (length point + e) (pos 0) ∙ get_or-append-add point after e (pos 0) ∙ get_or-drop (p * k + k) points e (pos 0) ∙ rw back)

  -- Every other number has the coordinates it had.
  pub written_elsewhere : (q d : ℕ) → q ≢ p → d < k → coord k (point_written k points p point) q d ≡ coord k points q d
  written_elsewhere q d other l = go (dec_lt q p)
    where
      go : Dec (q < p) → coord k (point_written k points p point) q d ≡ coord k points q d
      go (yes m) = lower (q * k + d) (omega (arith, mul-le-mul_right k m))
      go (no m) =
          let next : p < q = omega (arith, other) in
          let place : p * k + k + (q * k + d - (p * k + k)) ≡ q * k + d = omega (arith, mul-le-mul_right k next) in
          rw place at (higher (q * k + d - (p * k + k)))
