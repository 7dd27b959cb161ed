-- The words for what is lent, read off the values that the code has of it.
use Rattle.terms.specs.declared.lent.Stock as code_stock
use Rattle.terms.specs.declared.lent.Faces as code_faces
use Rattle.terms.specs.declared.lent.Regions as code_regions
use Rattle.terms.specs.Lent.{Stock, Faces, Regions, stock, faces, regions}

-- The stock that a value is.
abbrev pub stock_of : code_stock.Stock → Stock
stock_of s = stock s.k s.n s.points.now s.live.now

-- The faces that a value is.
abbrev pub lent_faces : code_faces.Faces → Faces
lent_faces f = faces f.h f.normals.now f.offsets.now f.marks.now

-- The regions that a value is.
abbrev pub lent_regions : code_regions.Regions → Regions
lent_regions g = regions g.region_count g.face_counts.now g.normals.now g.offsets.now g.marks.now
