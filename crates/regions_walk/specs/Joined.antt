-- The regions whose joined faces were tested.
use Rattle.terms.specs.Lent.{Regions, regions_of}
use Rattle.regions_walk.specs.declared.joined.JoinedFaces.{JoinedFaces}

-- The regions that they tell of.
abbrev pub regions_in : JoinedFaces → Regions
regions_in j = regions_of j.face_counts.now j.normals.now j.offsets.now j.marks.now
