-- What was lent, where a group of refusals was passed: what the functions below the calls require, group by group.
use Rattle.std.specs.Prelude.{◌≡◌, ◌≢◌, true, ◌&&◌, List, ◌++◌, ℕ, ◌*◌, ◌≤◌, ◌<◌, length, get_or, ℤ, pos, negsuc, leb, eqb}
use Rattle.std.proofs.Common.{leb-true, ltb-false, le-ltb, eqb-true, eq-eqb}
use Rattle.std.proofs.lemmas.Bool.{eqb-false}
use Rattle.terms.specs.Tests.{every}
use Rattle.terms.specs.Lent.{Stock, Order, Faces}
use Rattle.terms.specs.Live.{is_live_byte, is_live}
use Rattle.terms.specs.Points.{point_of, belongs_to}
use Rattle.terms.specs.Region.{is_component, is_offset, is_mark}
use Rattle.terms.specs.Tree.{is_shelf}
use Rattle.terms.specs.LivePoints.{members_in_range}
use Rattle.terms.specs.Refusals.{
  Refusal,
  dimension_refusals,
  size_refusals,
  length_refusals,
  room_refusals,
  live_coordinate_refusals,
  face_count_refusals,
  face_counts_refusals,
  face_length_refusals,
  face_range_refusals,
  mark_refusals,
  tree_refusals,
  region_count_refusals,
  live_refusals,
  full_refusals,
  dead_refusals,
  shape_refusals,
  stock_refusals,
  face_slice_refusals,
  face_refusals,
}
use Rattle.theory.specs.Flags.{not_false, false_not, and_true}
use Rattle.theory.specs.Counting.{every_at}
use Rattle.theory.specs.Tested.{TestedPoints, TestedFaces, within_each}
use Rattle.theory.specs.StockNumbers.{stock_under}
use Rattle.theory.specs.PointsInRange.{in_range_each, point_ranges}
use Rattle.theory.specs.FirstRefusal.{Passed, passed_parts, passed_next, passed_none}

pub dimension_passed : (k : ℕ) → Passed (dimension_refusals k) → (1 ≤ k) × (k ≤ 4)
dimension_passed k w =
    let p = and_true (leb 1 k) (not_false (leb 1 k && leb k 4) (w.fails 0)) in
    (leb-true 1 k p.0, leb-true k 4 p.1)

pub length_passed : (size : ℕ) (points : List ℤ) → Passed (length_refusals size points) → length points ≡ size
length_passed size points w = eqb-true (length points) size (not_false (eqb (length points) size) (w.fails 0))

pub size_passed : (n : ℕ) → Passed (size_refusals n) → n ≤ 65535
size_passed n w = ltb-false 65535 n (w.fails 0)

pub room_passed : (slots room : ℕ) → Passed (room_refusals slots room) → slots ≤ room
room_passed slots room w = ltb-false room slots (w.fails 0)

-- The points' shape: 1, 2 and 3 were tested.
pub record PointsShaped (k n : ℕ) (points : List ℤ) : Type 0 where
  pub dimension : (1 ≤ k) × (k ≤ 4)
  pub many : n ≤ 65535
  pub size : length points ≡ k * n

pub shape_passed : (k n : ℕ) (points : List ℤ) → Passed (shape_refusals k n points) → PointsShaped k n points
shape_passed k n points w =
    let a = passed_parts (dimension_refusals k) (size_refusals n ++ length_refusals (k * n) points) w in
    let b = passed_parts (size_refusals n) (length_refusals (k * n) points) a.1 in
    record { dimension = dimension_passed k a.0; many = size_passed n b.0; size = length_passed (k * n) points b.1 }

-- A live byte for each number, each 0 or 1.
pub record LiveTested (n : ℕ) (live : List ℕ) : Type 0 where
  pub bytes : length live ≡ n
  pub each_byte : every is_live_byte live ≡ true

pub live_passed : (n : ℕ) (live : List ℕ) → Passed (live_refusals n live) → LiveTested n live
live_passed n live w = record {
  bytes = eqb-true (length live) n (not_false (eqb (length live) n) (w.fails 0));
  each_byte = not_false (every is_live_byte live) (w.fails 1);
}

pub live_coordinates_passed : (s : Stock) → Passed (live_coordinate_refusals s) → members_in_range s.k (point_of s) (belongs_to s) s.n ≡ true
live_coordinates_passed s w = not_false (members_in_range s.k (point_of s) (belongs_to s) s.n) (w.fails 0)

-- A stock of the right shape whose live numbers' coordinates were passed is tested.
pub stock_tested : (s : Stock) → PointsShaped s.k s.n s.points → length s.live ≡ s.n → Passed (live_coordinate_refusals s) → TestedPoints s
stock_tested s shaped bytes w = record {
  some = shaped.dimension.0;
  few = shaped.dimension.1;
  many = shaped.many;
  size = shaped.size;
  bytes = bytes;
  each = λ p e.
      point_ranges s.k (point_of s p)
      (in_range_each s.k (point_of s) (belongs_to s) s.n (live_coordinates_passed s w) p (stock_under s p e) e);
}

pub stock_passed : (s : Stock) → Passed (stock_refusals s) → Passed (live_coordinate_refusals s) → TestedPoints s
stock_passed s w c =
    let p = passed_parts (shape_refusals s.k s.n s.points) (live_refusals s.n s.live) w in
    stock_tested s (shape_passed s.k s.n s.points p.0) (live_passed s.n s.live p.1).bytes c

pub face_count_passed : (h : ℕ) → Passed (face_count_refusals h) → h ≤ 32
face_count_passed h w = ltb-false 32 h (w.fails 0)

pub face_counts_passed : (face_counts : List ℕ) → Passed (face_counts_refusals face_counts) → (r : ℕ) → r < length face_counts → get_or face_counts r 0 ≤ 32
face_counts_passed face_counts w r l =
    leb-true _ 32 (every_at (λ h. leb h 32) 0 face_counts (not_false (every (λ h. leb h 32) face_counts) (w.fails 0)) r l)

-- 1 to 64 regions, and a face count for each.
pub record RegionsCounted (regions : ℕ) (face_counts : List ℕ) : Type 0 where
  pub some : 1 ≤ regions
  pub most : regions ≤ 64
  pub counted : length face_counts ≡ regions

pub region_count_passed : (regions : ℕ) (face_counts : List ℕ) → Passed (region_count_refusals regions face_counts) → RegionsCounted regions face_counts
region_count_passed regions face_counts w =
    let p = and_true (leb 1 regions) (not_false (leb 1 regions && leb regions 64) (w.fails 0)) in
    record {
      some = leb-true 1 regions p.0;
      most = leb-true regions 64 p.1;
      counted = eqb-true (length face_counts) regions (not_false (eqb (length face_counts) regions) (w.fails 1));
    }

-- The groups of the faces' slices, each passed.
record SlicesPassed (k : ℕ) (f : Faces) : Type 0 where
  sizes : Passed (face_length_refusals k f.h f.normals f.offsets)
  ranges : Passed (face_range_refusals f.normals f.offsets)
  marks : Passed (mark_refusals f.h f.marks)

slice_groups : (k : ℕ) (f : Faces) → Passed (face_slice_refusals k f) → SlicesPassed k f
slice_groups k f w =
    let L : List Refusal = face_length_refusals k f.h f.normals f.offsets in
    let R : List Refusal = face_range_refusals f.normals f.offsets in
    let M : List Refusal = mark_refusals f.h f.marks in
    let a = passed_parts L (R ++ M) w in
    let b = passed_parts R M a.1 in
    record { sizes = a.0; ranges = b.0; marks = b.1 }

-- The lists of the faces are as long as k and h say.
pub record FacesSized (k : ℕ) (f : Faces) : Type 0 where
  pub normals_size : length f.normals ≡ k * f.h
  pub offsets_size : length f.offsets ≡ f.h
  pub marks_size : length f.marks ≡ f.h

-- What the tests of the faces' slices ask, list by list.
pub record SlicesFit (k : ℕ) (f : Faces) : Type 0 where
  pub sized : FacesSized k f
  pub components : every is_component f.normals ≡ true
  pub offsets_range : every is_offset f.offsets ≡ true
  pub marks_range : every is_mark f.marks ≡ true

-- What the tests of the faces ask: few enough, and slices that fit.
pub record FacesFit (k : ℕ) (f : Faces) : Type 0 where
  pub many : f.h ≤ 32
  pub slices : SlicesFit k f

-- Slices that were passed fit.
pub slices_fit : (k : ℕ) (f : Faces) → Passed (face_slice_refusals k f) → SlicesFit k f
slices_fit k f w =
    let p = slice_groups k f w in
    record {
      sized = record {
        normals_size = eqb-true (length f.normals) (k * f.h) (not_false (eqb (length f.normals) (k * f.h)) (p.sizes.fails 0));
        offsets_size = eqb-true (length f.offsets) f.h (not_false (eqb (length f.offsets) f.h) (p.sizes.fails 1));
        marks_size = eqb-true (length f.marks) f.h (not_false (eqb (length f.marks) f.h) (p.marks.fails 0));
      };
      components = not_false (every is_component f.normals) (p.ranges.fails 0);
      offsets_range = not_false (every is_offset f.offsets) (p.ranges.fails 1);
      marks_range = not_false (every is_mark f.marks) (p.marks.fails 1);
    }

-- Faces that were passed fit, and faces that fit are passed.
pub faces_fit : (k : ℕ) (f : Faces) → Passed (face_refusals k f) → FacesFit k f
faces_fit k f w =
    let p = passed_parts (face_count_refusals f.h) (face_slice_refusals k f) w in
    record { many = face_count_passed f.h p.0; slices = slices_fit k f p.1 }

pub fit_faces : (k : ℕ) (f : Faces) → FacesFit k f → Passed (face_refusals k f)
fit_faces k f w =
    let s = w.slices in
    passed_next (le-ltb 32 f.h w.many)
    (passed_next (false_not (eq-eqb (length f.normals) (k * f.h) s.sized.normals_size))
    (passed_next (false_not (eq-eqb (length f.offsets) f.h s.sized.offsets_size))
    (passed_next (false_not s.components)
    (passed_next (false_not s.offsets_range)
    (passed_next (false_not (eq-eqb (length f.marks) f.h s.sized.marks_size))
    (passed_next (false_not s.marks_range) passed_none))))))

pub faces_passed : (k : ℕ) (f : Faces) → Passed (face_refusals k f) → TestedFaces k f
faces_passed k f w =
    let q = faces_fit k f w in
    let p = q.slices in
    record {
      many = q.many;
      normals_size = p.sized.normals_size;
      offsets_size = p.sized.offsets_size;
      components = within_each (negsuc 32766) (pos 32767) f.normals p.components;
      offsets_range = within_each (negsuc 8589934591) (pos 8589934592) f.offsets p.offsets_range;
      marks_size = p.sized.marks_size;
      marks_range = λ i l. leb-true _ 1 (every_at is_mark 0 f.marks p.marks_range i l);
    }

pub tree_passed : (s : Stock) (o : Order) → Passed (tree_refusals s o) → is_shelf s o ≡ true
tree_passed s o w = not_false (is_shelf s o) (w.fails 0)

pub full_passed : (n v : ℕ) → Passed (full_refusals n v) → v ≢ n
full_passed n v w = eqb-false v n (w.fails 0)

pub dead_passed : (n p : ℕ) (live : List ℕ) → Passed (dead_refusals n p live) → is_live n live p ≡ true
dead_passed n p live w = not_false (is_live n live p) (w.fails 0)
