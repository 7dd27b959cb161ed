-- The faces at a branch, their normals in a table: all of them were tested, and those that are live tell of all wherever the branch's box is asked. What is live for a box is live
-- for the boxes of the two branches of its node, whose point lies in the box.
use Rattle.std.specs.Prelude.{◌≡◌, refl, Bool, List, ℕ, ◌≤◌, length, take, ℤ}
use Rattle.std.proofs.Common.{ap, ◌∙◌}
use Rattle.terms.specs.Lent.{Faces}
use Rattle.terms.specs.Points.{coord, lone}
use Rattle.terms.specs.Box.{Box, left_box, right_box}
use Rattle.terms.specs.Region.{inside}
use Rattle.theory.specs.Boxes.{In}
use Rattle.theory.specs.BoxLaws.{left_nested, right_nested}
use Rattle.region.specs.Table.{tabled}
use Rattle.region.specs.Ranges.{KnownTable}
use Rattle.region.specs.Live.{Lives, AllLive, InsideByLive, lives_nested, lives_front}
use Rattle.region.specs.Told.{TableOf, faces_at, told}
use Rattle.region.specs.declared.tested.TestedFaces.{TestedFaces}
use Rattle.region.specs.declared.table.Table.{Table}
use Rattle.descent.specs.Points.{PointAt, point_told}

-- The first count of these faces are live for a branch in box b.
pub record Faced (k : ℕ) (f : Faces) (b : Box) (live : List ℕ) (count : ℕ) : Type 0 where
  pub faces : KnownTable k f
  pub lives : Lives (tabled k f) b live count

-- All faces are live for any box.
pub all_faced : {k : ℕ} {f : Faces} {b : Box} {live : List ℕ} → KnownTable k f → AllLive f.h live f.h → Faced k f b live f.h
all_faced faces all = record { faces = faces; lives = all.lives _ _ refl }

module _ {k : ℕ} {f : Faces} {b : Box} {live : List ℕ} {count : ℕ} (w : Faced k f b live count)
    {x : ℕ → ℤ} (own : In k b x) (s : ℕ) where
  pub faced_left : Faced k f (left_box b s (x s)) live count
  faced_left = record { faces = w.faces; lives = lives_nested (left_nested own s) w.lives }

  pub faced_right : Faced k f (right_box b s (x s)) live count
  faced_right = record { faces = w.faces; lives = lives_nested (right_nested own s) w.lives }

-- What the live faces of a table tell of a node's point is whether it is inside.
pub node_told : {k : ℕ} {points : List ℤ} {p : ℕ} (t : Table) {b : Box} {live : List ℕ} {count : ℕ} {x : List ℤ} {answer : Bool} → t.k ≡ k
    → Faced k (faces_at t) b live count → In k b (coord k points p) → PointAt k points p x → InsideByLive (told t) live count (lone x) answer
    → answer ≡ inside (tabled k (faces_at t)) (coord k points p)
node_told t same w own point tells = (point_told point (rw same at tells)).tells w.lives own

-- At the root all faces are live, lent alone; the table was made of them.
pub faced_root : {f : TestedFaces} {t : Table} {k : ℕ} {all : List ℕ} → TableOf f t → f.k ≡ k → ((h : ℕ) → h ≤ 32 → AllLive h all h) → (b : Box)
    → Faced k (faces_at t) b (take (length f.offsets.now) all) (length (take (length f.offsets.now) all))
faced_root {f} {t} {k} w same all b =
    let e : t.k ≡ k = w.k_is ∙ same in
    record {
      faces = rw e at t.known;
      lives = lives_front ((all (length f.offsets.now) f.known.tested.many).lives (tabled k (faces_at t)) b (ap length w.offsets_are));
    }
