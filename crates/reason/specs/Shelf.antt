-- The reason of a number of a whole shelf: the root can be searched, and what is found there is the reason of the shelf.
use Rattle.std.specs.Prelude.{◌≡◌, List, ℕ, ◌<◌, ℤ}
use Rattle.std.proofs.Common.{◌∙◌, arith}
use Rattle.std.proofs.Math.ListN.{length}
use Rattle.std.proofs.Math.Seq.{take-length}
use Rattle.terms.specs.declared.Reason.{Reason}
use Rattle.terms.specs.Lent.{Faces, faces_of}
use Rattle.terms.specs.Points.{coord}
use Rattle.terms.specs.Box.{Box}
use Rattle.terms.specs.Region.{region}
use Rattle.terms.specs.Reason.{InRun}
use Rattle.terms.specs.Explain.{reason_of}
use Rattle.theory.specs.ReasonSteps.{reason_alike}
use Rattle.region.specs.Table.{Tabled}
use Rattle.descent.specs.Points.{HasPoint, PointAt}
use Rattle.descent.specs.Faced.{Faced}
use Rattle.descent.specs.Root.{Rooted, boxed_root}
use Rattle.reason.specs.Tabled.{reason_tabled}
use Rattle.reason.specs.Find.{Sought, Found}

module _ {k : ℕ} {points : List ℤ} {order : List ℕ} {b : Box} (r : Rooted k points order b) {p : ℕ} (stands : InRun order p) where
  -- A number that stands in the order has its point.
  pub number_known : HasPoint k points p
  number_known = let s = stands.1 in rw s.number at (r.standing.known.each stands.0 s.known)

  pub sought_root : {f : Faces} {x : List ℤ} {live : List ℕ} {count : ℕ} → Faced k f b live count → PointAt k points p x
      → Sought k points order f p x 0 (length order) 0 b live count
  sought_root faced point = record {
    standing = r.standing;
    boxed = boxed_root r;
    faced = faced;
    stands = rw (take-length order) stands;
    known = number_known;
    point = point;
  }

  pub found_root : {normals table : List ℤ} (offsets : List ℤ) (marks : List ℕ) {why : Reason} → Tabled k normals (length offsets) table
      → Found k points order (faces_of table offsets marks) p 0 (length order) 0 b why
      → why ≡ reason_of (region k (faces_of normals offsets marks)) (coord k points) order p
  unfolding reason_of
  found_root {normals} {table} offsets marks t w =
      let some : 0 < length order = let s = stands.1 in omega (arith, s.known) in
      rw (take-length order) at (w.told (length order) (omega arith))
      ∙ reason_tabled offsets marks t (length order) (coord k points) p 0 0 order b
      ∙ reason_alike (length order) (region k (faces_of normals offsets marks)) (coord k points) p 0 0 order (r.alike some)
