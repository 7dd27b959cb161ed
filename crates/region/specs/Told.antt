-- The regions that the values which hold faces tell of, and what a table that was made of lent faces has of them.
use Rattle.std.specs.Prelude.{◌≡◌, length}
use Rattle.terms.specs.Lent.{Faces, faces_of}
use Rattle.terms.specs.Region.{Region, region}
use Rattle.region.specs.Table.{Tabled, tabled}
use Rattle.region.specs.declared.tested.TestedFaces.{TestedFaces}
use Rattle.region.specs.declared.table.Table.{Table}

-- The faces that are lent.
abbrev pub faces_in : TestedFaces → Faces
faces_in f = faces_of f.normals.now f.offsets.now f.marks.now

-- The region that they tell of.
abbrev pub region_of : TestedFaces → Region
region_of f = region f.k (faces_in f)

-- The faces of a table.
abbrev pub faces_at : Table → Faces
faces_at t = faces_of t.rows t.offsets.now t.marks.now

-- The region that a table tells of.
abbrev pub told : Table → Region
told t = tabled t.k (faces_at t)

-- The table has the row of each of the lent faces, and their offsets and marks.
pub record TableOf (f : TestedFaces) (t : Table) : Type 0 where
  pub k_is : t.k ≡ f.k
  pub rows : Tabled f.k f.normals.now (length f.offsets.now) t.rows
  pub offsets_are : t.offsets.now ≡ f.offsets.now
  pub marks_are : t.marks.now ≡ f.marks.now

-- Said of the faces' own numbers.
pub told_is : {f : TestedFaces} {t : Table} → TableOf f t → told t ≡ tabled f.k (faces_of t.rows f.offsets.now f.marks.now)
told_is w = let a = w.k_is in let b = w.offsets_are in let c = w.marks_are in cc
