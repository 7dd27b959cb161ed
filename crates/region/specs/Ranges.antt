-- What the functions require of coordinates, boxes and faces, and that the products and their sums then fit.
use Rattle.std.specs.Prelude.{◌≡◌, List, ℕ, suc, ◌+◌, ◌*◌, ◌≤◌, ◌<◌, length, get_or, ℤ, pos, negsuc, nat_abs, ◌*ℤ◌}
use Rattle.std.proofs.Common.{ap, ◌∙◌, mul-le-mul, arith, SFits}
use Rattle.std.proofs.Math.Decide.{dec_lt}
use Rattle.std.specs.Int.{w64}
use Rattle.whole.proofs.Parts.{ints, abs_parts}
use Rattle.whole.proofs.Magnitudes.{abs_mul}
use Rattle.whole.proofs.Fits.{fits_abs_le}
use Rattle.whole.proofs.Products.{zero_mul}
use Rattle.whole.specs.IndexedSum.{sum_to}
use Rattle.whole.proofs.IndexedSum.{sum_abs, sum_rest}
use Rattle.terms.specs.Lent.{Faces, faces_of}
use Rattle.terms.specs.Box.{Box, replaced, left_box, right_box}
use Rattle.theory.specs.BoxLaws.{replaced_by}
use Rattle.theory.specs.Tested.{Between, Coordinates, TestedFaces}
use Rattle.theory.specs.PointsAlike.{SamePoint, same_point_fewer}
use Rattle.region.specs.Table.{normal_of, products, Row, Tabled}

-- The first k coordinates of both rows of a box are in range.
pub record BoxRanges (k : ℕ) (b : Box) : Type 0 where
  pub low : Coordinates k b.low
  pub high : Coordinates k b.high

-- A branch's box is in range when its parent's is and the node's coordinate is.
replaced_ranges : {k : ℕ} {row : ℕ → ℤ} (s : ℕ) {x : ℤ} → Coordinates k row → Between (negsuc 32767) x (pos 32767) → Coordinates k (replaced row s x)
replaced_ranges {row = row} s {x} r q = record {
  ranges = λ d l. replaced_by (λ e z. Between (negsuc 32767) z (pos 32767)) row s x d (λ e. q) (λ n. r.ranges d l);
}

module _ {k : ℕ} {b : Box} (r : BoxRanges k b) (s : ℕ) {x : ℤ} (q : Between (negsuc 32767) x (pos 32767)) where
  pub left_ranges : BoxRanges k (left_box b s x)
  left_ranges = record { low = r.low; high = replaced_ranges s r.high q }

  pub right_ranges : BoxRanges k (right_box b s x)
  right_ranges = record { low = replaced_ranges s r.low q; high = r.high }

-- A normal of k components in range, with 0 from k on.
pub record Normal (k : ℕ) (normal : ℕ → ℤ) : Type 0 where
  pub few : k ≤ 4
  pub ranges : (d : ℕ) → d < k → Between (negsuc 32766) (normal d) (pos 32767)
  pub rest : (d : ℕ) → k ≤ d → d < 4 → normal d ≡ pos 0

-- Tested faces of at most four dimensions.
pub record KnownFaces (k : ℕ) (f : Faces) : Type 0 where
  pub few : k ≤ 4
  pub tested : TestedFaces k f

-- The normals have a face i of k components.
pub record HasNormal (k : ℕ) (normals : List ℤ) (i : ℕ) : Type 0 where
  pub few : k ≤ 4
  pub room : i * k + k ≤ length normals

-- Each face of normals that are k times h long has its own.
pub has_normal : {k : ℕ} {normals : List ℤ} {h i : ℕ} → k ≤ 4 → length normals ≡ k * h → i < h → HasNormal k normals i
has_normal {k} {normals} {h} {i} few size l =
    let more : suc i * k ≤ h * k = mul-le-mul l (omega arith) in
    record { few = few; room = omega arith }

-- Face i has its offset, in range.
pub record HasOffset (offsets : List ℤ) (i : ℕ) : Type 0 where
  pub there : i < length offsets
  pub range : Between (negsuc 8589934591) (get_or offsets i (pos 0)) (pos 8589934592)

-- Face i has its mark, 0 or 1.
pub record HasMark (marks : List ℕ) (i : ℕ) : Type 0 where
  pub there : i < length marks
  pub range : get_or marks i 0 ≤ 1

-- Face i has both.
pub record Marked (offsets : List ℤ) (marks : List ℕ) (i : ℕ) : Type 0 where
  pub offset : HasOffset offsets i
  pub mark : HasMark marks i

-- What was tested of face i: its row is a normal, and it has its offset and its mark.
module _ {k : ℕ} {f : Faces} (w : KnownFaces k f) {i : ℕ} (l : i < f.h) where
  pub known_row : {row : ℕ → ℤ} → Row k (normal_of k f.normals i) row → Normal k row
  known_row r =
      let room : i * k + k ≤ length f.normals = (has_normal {normals = f.normals} w.few w.tested.normals_size l).room in
      record { few = w.few; ranges = λ d m. rw (r.same.same d m) (w.tested.components (i * k + d) (omega arith)); rest = r.rest }

  pub known_marked : Marked f.offsets f.marks i
  known_marked =
      let t = w.tested in
      let offset : i < length f.offsets = omega (arith, t.offsets_size) in
      let mark : i < length f.marks = omega (arith, t.marks_size) in
      record {
        offset = record { there = offset; range = t.offsets_range i offset };
        mark = record { there = mark; range = t.marks_range i mark };
      }

-- Faces whose normals are a table: each row is a normal, and each face has its offset and its mark.
pub record KnownTable (k : ℕ) (f : Faces) : Type 0 where
  pub many : f.h ≤ 32
  pub each : (i : ℕ) → i < f.h → Normal k (normal_of 4 f.normals i)
  pub marked : (i : ℕ) → i < f.h → Marked f.offsets f.marks i

-- The table of tested faces.
pub known_table : {k : ℕ} {normals offsets table : List ℤ} {marks : List ℕ} → KnownFaces k (faces_of normals offsets marks) → Tabled k normals (length offsets) table
    → KnownTable k (faces_of table offsets marks)
known_table w t = record { many = w.tested.many; each = λ i l. known_row w l (t.each i l); marked = λ i l. known_marked w l }

-- The table has a row i.
pub record HasRow (k : ℕ) (f : Faces) (i : ℕ) : Type 0 where
  pub all : KnownTable k f
  pub known : i < f.h

-- A point has a margin to row i of a table: the row is a normal, and face i has its offset.
pub record HasMargin (k : ℕ) (table offsets : List ℤ) (i : ℕ) : Type 0 where
  pub few : i < 32
  pub normal : Normal k (normal_of 4 table i)
  pub offset : HasOffset offsets i

pub has_margin : {k : ℕ} {f : Faces} {i : ℕ} → HasRow k f i → HasMargin k f.normals f.offsets i
has_margin {i = i} w =
    let a = w.all in
    record { few = omega (arith, w.known, a.many); normal = a.each i w.known; offset = (a.marked i w.known).offset }

-- A row with the same four components as a normal is one, and agrees with it on the first k.
module _ {k : ℕ} {normal : ℕ → ℤ} (n : Normal k normal) {row : ℕ → ℤ} (s : SamePoint 4 row normal) where
  pub row_normal : Normal k row
  row_normal =
      record { few = n.few; ranges = λ d l. rw (s.same d (omega (arith, n.few))) (n.ranges d l); rest = λ d l m. s.same d m ∙ n.rest d l m }

  pub row_same : SamePoint k row normal
  row_same = same_point_fewer row_normal.few s

abs_coordinate : (z : ℤ) → Between (negsuc 32767) z (pos 32767) → nat_abs z ≤ 32768
abs_coordinate z r = omega (ints, abs_parts z)

abs_component : (z : ℤ) → Between (negsuc 32766) z (pos 32767) → nat_abs z ≤ 32767
abs_component z r = omega (ints, abs_parts z)

module _ {k : ℕ} {normal x : ℕ → ℤ} (n : Normal k normal) (p : Coordinates k x) where
  -- From k on the product is 0.
  product_rest : (d : ℕ) → k ≤ d → d < 4 → products normal x d ≡ pos 0
  product_rest d l m = ap (λ (c : ℤ). c *ℤ x d) (n.rest d l m) ∙ zero_mul (x d)

  -- A product is at most 32,767 * 32,768.
  pub abs_product : (d : ℕ) → d < 4 → nat_abs (products normal x d) ≤ 1073709056
  abs_product d l = go (dec_lt d k)
    where
      go : Dec (d < k) → nat_abs (products normal x d) ≤ 1073709056
      go (no m) = rw (product_rest d (omega arith) l) (omega arith)
      go (yes m) = omega (
        arith,
        abs_mul (normal d) (x d),
        mul-le-mul (abs_component _ (n.ranges d m)) (abs_coordinate _ (p.ranges d m)),
      )

  pub product_fits : (d : ℕ) → d < 4 → SFits w64 (products normal x d)
  product_fits d l = fits_abs_le 1073709056 (abs_product d l) tt

  pub sum_fits : (d : ℕ) → d ≤ 4 → SFits w64 (sum_to d (products normal x))
  sum_fits d l = fits_abs_le 4294836224 (omega (arith, sum_abs d 1073709056 (products normal x) (λ e m. abs_product e (omega arith)))) tt

  -- A sum is at most 4 * 32,767 * 32,768.
  pub abs_sum : nat_abs (sum_to k (products normal x)) ≤ 4294836224
  abs_sum =
      let few : k ≤ 4 = n.few in
      omega (arith, sum_abs k 1073709056 (products normal x) (λ e m. abs_product e (omega arith)))

  -- The sum of all four is that of the first k.
  pub sum_of_four : sum_to 4 (products normal x) ≡ sum_to k (products normal x)
  sum_of_four = sum_rest 4 k (products normal x) n.few product_rest
