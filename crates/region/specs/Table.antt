-- The faces as a table: a row of four to a face, its k components and 0 from k on. It tells of the region of the faces.
use Rattle.std.specs.Prelude.{◌≡◌, refl, List, ◌++◌, ℕ, ◌+◌, ◌-◌, ◌*◌, ◌≤◌, ◌<◌, length, get_or, take, ℤ, pos, ◌*ℤ◌, ◌-ℤ◌}
use Rattle.std.proofs.Math.Path.{ap, fun_ext}
use Rattle.std.proofs.Common.{arith, length-take-le, get_or-take}
use Rattle.std.proofs.lemmas.List.{get_or_append_left, get_or-append_right}
use Rattle.std.proofs.Math.Decide.{dec_lt}
use Rattle.std.proofs.Math.Bool.{not}
use Rattle.whole.specs.IndexedSum.{sum_to}
use Rattle.whole.proofs.IndexedSum.{sum_same}
use Rattle.terms.specs.Lent.{Faces, faces_of}
use Rattle.terms.specs.Points.{lone}
use Rattle.terms.specs.Box.{Box}
use Rattle.terms.specs.Region.{Region, region, above_at, above, is_below, inside, wholly_above, wholly_below, is_settled, is_open}
use Rattle.terms.specs.Margin.{margin}
use Rattle.theory.specs.AllAndAny.{all_same, any_same}
use Rattle.theory.specs.PointsAlike.{SamePoint}
use Rattle.region.specs.Corners.{corner}

-- Component d of face i's normal, k components to a face.
abbrev pub normal_of : ℕ → List ℤ → ℕ → ℕ → ℤ
normal_of k normals i d = get_or normals (i * k + d) (pos 0)

-- The product of a component and a coordinate.
abbrev pub products : (ℕ → ℤ) → (ℕ → ℤ) → ℕ → ℤ
products normal x d = normal d *ℤ x d

-- Normals with the same first k components have the same sum of products, at a point and at the corner that their signs choose.
module _ {k : ℕ} {row normal : ℕ → ℤ} (s : SamePoint k row normal) where
  pub sum_same_normal : (x : ℕ → ℤ) → sum_to k (products row x) ≡ sum_to k (products normal x)
  sum_same_normal x = sum_same k _ _ (λ d l. ap (λ (c : ℤ). c *ℤ x d) (s.same d l))

  pub sum_same_corner : (first second : ℕ → ℤ)
      → sum_to k (products row (corner first second row)) ≡ sum_to k (products normal (corner first second normal))
  sum_same_corner first second = sum_same k _ _ (λ d l. rw (s.same d l))

-- The row holds a normal's k components, and 0 from k on.
pub record Row (k : ℕ) (normal row : ℕ → ℤ) : Type 0 where
  pub same : SamePoint k row normal
  pub rest : (d : ℕ) → k ≤ d → d < 4 → row d ≡ pos 0

-- The table of h faces has the row of each.
pub record Tabled (k : ℕ) (normals : List ℤ) (h : ℕ) (table : List ℤ) : Type 0 where
  pub each : (i : ℕ) → i < h → Row k (normal_of k normals i) (normal_of 4 table i)

-- What place e of the table holds: component d of face i, or 0 from k on, where e is place d of row i.
pub record PlaceHolds (k : ℕ) (normals : List ℤ) (e : ℕ) (z : ℤ) : Type 0 where
  pub same : (i d : ℕ) → d < 4 → e ≡ i * 4 + d → d < k → z ≡ normal_of k normals i d
  pub rest : (i d : ℕ) → d < 4 → e ≡ i * 4 + d → k ≤ d → z ≡ pos 0

-- The loop that fills the table: its first e places hold what they are to hold.
pub record TabledTo (k : ℕ) (normals : List ℤ) (e : ℕ) (table : List ℤ) : Type 0 where
  pub long : length table ≡ 128
  pub places : (o : ℕ) → o < e → PlaceHolds k normals o (get_or table o (pos 0))

-- Before the first turn nothing is asked of it.
pub tabled_none : (k : ℕ) (normals table : List ℤ) → length table ≡ 128 → TabledTo k normals 0 table
tabled_none k normals table long = record { long = long; places = λ o l. absurd (omega arith) }

-- The row of face i: what each of its places is to hold.
module _ {k : ℕ} (normals : List ℤ) (i : ℕ) (known : i < 32) (row : List ℤ) (r : Row k (normal_of k normals i) (lone row)) where
  row_holds : (d e : ℕ) → d < 4 → e ≡ i * 4 + d → PlaceHolds k normals e (lone row d)
  row_holds d e l q = record {
    same = λ j c m p n.
        let face : j ≡ i = omega arith in
        let place : c ≡ d = omega arith in
        rw (face, place) (r.same.same d (omega arith));
    rest = λ j c m p n. r.rest d (omega arith) l;
  }

  -- It is copied in whole, over what stood there.
  pub row_next : length row ≡ 4 → (table rest : List ℤ) → TabledTo k normals (i * 4) table → length (take (i * 4) table ++ (row ++ rest)) ≡ 128
      → TabledTo k normals ((i + 1) * 4) (take (i * 4) table ++ (row ++ rest))
  row_next four table rest t long = record { long = long; places = λ o l. place o l (dec_lt o (i * 4)) }
    where
      front : length (take (i * 4) table) ≡ i * 4
      front = length-take-le (i * 4) table (omega (arith, t.long))

      place : (o : ℕ) → o < (i + 1) * 4 → Dec (o < i * 4) → PlaceHolds k normals o (get_or (take (i * 4) table ++ (row ++ rest)) o (pos 0))
      place o l (yes m) =
          rw (get_or_append_left (take (i * 4) table) (row ++ rest) (pos 0) o (omega (arith, front)), get_or-take (i * 4) table o (pos 0) m) (t.places o m)
      place o l (no n) =
          rw
          (get_or-append_right (take (i * 4) table) (row ++ rest) (i * 4) o (pos 0) front (omega arith), get_or_append_left row rest (pos 0) (o - i * 4) (omega arith))
          (row_holds (o - i * 4) o (omega arith) (omega arith))

-- All rows are stored.
pub tabled_all : {k : ℕ} {normals : List ℤ} {h e : ℕ} {table : List ℤ} → k ≤ 4 → TabledTo k normals e table → h * 4 ≤ e → Tabled k normals h table
tabled_all few t l = record {
  each = λ i m. record {
    same = record { same = λ d n. (t.places (i * 4 + d) (omega arith)).same i d (omega arith) refl n };
    rest = λ d n o. (t.places (i * 4 + d) (omega arith)).rest i d o refl n;
  };
}

-- The region that faces tell of whose normals are a table: the first k components of each row count.
abbrev pub tabled : ℕ → Faces → Region
tabled k f = record {
  k = k;
  h = f.h;
  component = normal_of 4 f.normals;
  offset = (region k f).offset;
  marked_open = (region k f).marked_open;
}

-- It is the region of the faces of which the table was made: the same points are inside, and the same boxes open.
module _ {k : ℕ} {normals table : List ℤ} (offsets : List ℤ) (marks : List ℕ) (t : Tabled k normals (length offsets) table) where
  abbrev by_table : Region
  by_table = tabled k (faces_of table offsets marks)

  abbrev by_faces : Region
  by_faces = region k (faces_of normals offsets marks)

  -- What a sum is above hangs on the offset and the mark alone.
  at_same : (i : ℕ) {v w : ℤ} → v ≡ w → above_at by_table i v ≡ above_at by_faces i w
  unfolding above_at
  at_same i e = ap (above_at by_table i) e

  corner_same : (i : ℕ) → i < length offsets → (first second : ℕ → ℤ)
      → above by_table i (corner first second (by_table.component i)) ≡ above by_faces i (corner first second (by_faces.component i))
  corner_same i l first second = at_same i (sum_same_corner (t.each i l).same first second)

  -- Face by face: what a point is above, by how much, and what a box is wholly above and wholly below.
  module _ (i : ℕ) (l : i < length offsets) where
    above_tabled : (x : ℕ → ℤ) → above by_table i x ≡ above by_faces i x
    above_tabled x = at_same i (sum_same_normal (t.each i l).same x)

    pub is_below_tabled : (x : ℕ → ℤ) → is_below by_table x i ≡ is_below by_faces x i
    is_below_tabled x = ap not (above_tabled x)

    pub margin_tabled : (x : ℕ → ℤ) → margin by_table i x ≡ margin by_faces i x
    margin_tabled x = ap (λ (sum : ℤ). sum -ℤ get_or offsets i (pos 0)) (sum_same_normal (t.each i l).same x)

    pub wholly_above_tabled : (b : Box) → wholly_above by_table b i ≡ wholly_above by_faces b i
    wholly_above_tabled b = corner_same i l b.low b.high

    pub wholly_below_tabled : (b : Box) → wholly_below by_table b i ≡ wholly_below by_faces b i
    wholly_below_tabled b = ap not (corner_same i l b.high b.low)

  pub inside_tabled : inside by_table ≡ inside by_faces
  unfolding inside
  inside_tabled = fun_ext (λ x. all_same (length offsets) _ _ (λ i l. above_tabled i l x))

  settled_tabled : (b : Box) → is_settled by_table b ≡ is_settled by_faces b
  unfolding is_settled
  settled_tabled b = cc (
    any_same (length offsets) (wholly_below by_table b) (wholly_below by_faces b) (λ i l. wholly_below_tabled i l b),
    all_same (length offsets) (wholly_above by_table b) (wholly_above by_faces b) (λ i l. wholly_above_tabled i l b),
  )

  pub open_tabled : is_open by_table ≡ is_open by_faces
  unfolding is_open
  open_tabled = fun_ext (λ b. ap not (settled_tabled b))
