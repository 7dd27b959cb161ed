-- What a public call has tested before its work begins: what the functions below it require of points and faces.
use Rattle.std.specs.Prelude.{◌≡◌, true, List, ℕ, ◌+◌, ◌*◌, ◌≤◌, ◌<◌, length, get_or, ℤ, pos, negsuc, ◌≤ℤ◌}
use Rattle.std.proofs.Common.{mul_comm, mul-le-mul_right, arith}
use Rattle.std.specs.Int.Signed.{le_z}
use Rattle.whole.proofs.Order.{le_z_le}
use Rattle.terms.specs.Tests.{every}
use Rattle.terms.specs.Lent.{Stock, Faces}
use Rattle.terms.specs.Points.{point_of, belongs_to, within}
use Rattle.theory.specs.Flags.{and_true}
use Rattle.theory.specs.Counting.{every_at}

-- The number lies from least to greatest.
pub record Between (least z greatest : ℤ) : Type 0 where
  pub from_least : least ≤ℤ z
  pub to_greatest : z ≤ℤ greatest

-- The first k coordinates of a point are in range.
pub record Coordinates (k : ℕ) (x : ℕ → ℤ) : Type 0 where
  pub ranges : (d : ℕ) → d < k → Between (negsuc 32767) (x d) (pos 32767)

-- The stock, whose 1, 2, 3, 15 and 5 were tested: there is a live byte for each number, and the points of the numbers that belong are in range.
pub record TestedPoints (s : Stock) : Type 0 where
  pub some : 1 ≤ s.k
  pub few : s.k ≤ 4
  pub many : s.n ≤ 65535
  pub size : length s.points ≡ s.k * s.n
  pub bytes : length s.live ≡ s.n
  pub each : (p : ℕ) → belongs_to s p ≡ true → Coordinates s.k (point_of s p)

-- Where point p's coordinate d lies.
pub coordinate_place : (k n : ℕ) (points : List ℤ) → length points ≡ k * n → {p d : ℕ} → p < n → d < k → p * k + d < length points
coordinate_place k n points size l m = omega (arith, mul-le-mul_right k l, mul_comm k n)

-- Point p has its k places.
pub point_places : (k n : ℕ) (points : List ℤ) → length points ≡ k * n → {p : ℕ} → p < n → p * k + k ≤ length points
point_places k n points size l = omega (arith, mul-le-mul_right k l, mul_comm k n)

-- The faces, whose 6, 7, 8 and 11 were tested.
pub record TestedFaces (k : ℕ) (f : Faces) : Type 0 where
  pub many : f.h ≤ 32
  pub normals_size : length f.normals ≡ k * f.h
  pub offsets_size : length f.offsets ≡ f.h
  pub components : (i : ℕ) → i < length f.normals → Between (negsuc 32766) (get_or f.normals i (pos 0)) (pos 32767)
  pub offsets_range : (i : ℕ) → i < length f.offsets → Between (negsuc 8589934591) (get_or f.offsets i (pos 0)) (pos 8589934592)
  pub marks_size : length f.marks ≡ f.h
  pub marks_range : (i : ℕ) → i < length f.marks → get_or f.marks i 0 ≤ 1

-- A range test passed by a whole list, item by item.
pub within_each : (least greatest : ℤ) (xs : List ℤ) → every (within least greatest) xs ≡ true
    → (i : ℕ) → i < length xs → Between least (get_or xs i (pos 0)) greatest
within_each least greatest xs e i l =
    let p = and_true (le_z least (get_or xs i (pos 0))) (every_at (within least greatest) (pos 0) xs e i l) in
    record { from_least = le_z_le p.0; to_greatest = le_z_le p.1 }
