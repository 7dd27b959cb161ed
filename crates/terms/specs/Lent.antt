-- What a caller lends, as one record each: the stock, the order, the faces, the regions. The contracts of the calls put them together from the lent slices.
use Rattle.std.specs.Prelude.{List, ℕ, length, ℤ}

-- The stock: n points of k coordinates each, point 0 first, and a live byte for each, 0 dead or 1 live.
pub record Stock : Type 0 where
  pub k : ℕ
  pub n : ℕ
  pub points : List ℤ
  pub live : List ℕ

-- The order: the number in each slot.
pub record Order : Type 0 where
  pub slots : List ℕ

-- The faces: h of them, k components to a face, and an offset and a mark for each, 0 closed or 1 open.
pub record Faces : Type 0 where
  pub h : ℕ
  pub normals : List ℤ
  pub offsets : List ℤ
  pub marks : List ℕ

-- The regions: so many, a face count for each, and their faces end to end.
pub record Regions : Type 0 where
  pub region_count : ℕ
  pub face_counts : List ℕ
  pub normals : List ℤ
  pub offsets : List ℤ
  pub marks : List ℕ

-- The stock as a call is handed it.
abbrev pub stock : ℕ → ℕ → List ℤ → List ℕ → Stock
stock k n points live = record { k = k; n = n; points = points; live = live }

-- The order as a call is handed it.
abbrev pub order_of : List ℕ → Order
order_of slots = record { slots = slots }

-- The faces as a call is handed them.
abbrev pub faces : ℕ → List ℤ → List ℤ → List ℕ → Faces
faces h normals offsets marks = record { h = h; normals = normals; offsets = offsets; marks = marks }

-- Faces that were tested are as many as their offsets.
abbrev pub faces_of : List ℤ → List ℤ → List ℕ → Faces
faces_of normals offsets marks = faces (length offsets) normals offsets marks

-- The regions as a call is handed them.
abbrev pub regions : ℕ → List ℕ → List ℤ → List ℤ → List ℕ → Regions
regions region_count face_counts normals offsets marks =
    record { region_count = region_count; face_counts = face_counts; normals = normals; offsets = offsets; marks = marks }

-- Regions that were tested are as many as their face counts.
abbrev pub regions_of : List ℕ → List ℤ → List ℤ → List ℕ → Regions
regions_of face_counts normals offsets marks = regions (length face_counts) face_counts normals offsets marks
