-- The faces of each of several regions: its part of the joined slices, which starts after the faces of the regions before it.
use Rattle.std.specs.Prelude.{List, ℕ, ◌*◌, get_or}
use Rattle.whole.specs.IndexedTotal.{total_to}
use Rattle.terms.specs.Lent.{Faces, Regions, faces}
use Rattle.terms.specs.EndToEnd.{part}

-- How many faces region r has, by the face counts.
abbrev pub faces_in : List ℕ → ℕ → ℕ
faces_in face_counts r = get_or face_counts r 0

-- How many faces the regions before region r have together.
abbrev pub faces_before : List ℕ → ℕ → ℕ
faces_before face_counts r = total_to r (faces_in face_counts)

-- The faces of all regions, end to end as they are lent.
abbrev pub joined_faces : Regions → Faces
joined_faces g = faces (faces_before g.face_counts g.region_count) g.normals g.offsets g.marks

-- The faces of region r: k components, an offset and a mark for each.
abbrev pub faces_of_region : ℕ → Regions → ℕ → Faces
faces_of_region k g r = faces
    (faces_in g.face_counts r)
    (part (k * faces_before g.face_counts r) (k * faces_in g.face_counts r) g.normals)
    (part (faces_before g.face_counts r) (faces_in g.face_counts r) g.offsets)
    (part (faces_before g.face_counts r) (faces_in g.face_counts r) g.marks)
