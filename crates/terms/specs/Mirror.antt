-- A face by itself, its mirror, and faces with one more. Two bins that are laid side by side along a face have it and its mirror.
use Rattle.std.specs.Prelude.{List, [], ◌∷◌, ◌++◌, map, ℕ, suc, ◌-◌, ℤ, neg_ℤ}
use Rattle.terms.specs.Lent.{Faces, faces}

-- One face: the components of its normal, its offset and its mark.
pub record Face : Type 0 where
  pub normal : List ℤ
  pub offset : ℤ
  pub mark : ℕ

-- The mirror of a face: normal and offset negated, the other mark.
abbrev pub mirror : Face → Face
mirror f = record { normal = map neg_ℤ f.normal; offset = neg_ℤ f.offset; mark = 1 - f.mark }

-- The faces with one more after them.
abbrev pub with_face : Faces → Face → Faces
with_face a f = faces (suc a.h) (a.normals ++ f.normal) (a.offsets ++ f.offset ∷ []) (a.marks ++ f.mark ∷ [])
