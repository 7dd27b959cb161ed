-- The slots of a shelf that was tested, and the faces: what the walks below the calls require of them.
use Rattle.std.specs.Prelude.{◌≡◌, true, List, ℕ, ◌≤◌, length}
use Rattle.std.proofs.Common.{arith, length-take-le}
use Rattle.terms.specs.Lent.{Stock, Order, Faces, faces_of}
use Rattle.terms.specs.Points.{slots_of}
use Rattle.terms.specs.Tree.{shelf_run, is_shelf}
use Rattle.theory.specs.StockNumbers.{stock_few}
use Rattle.theory.specs.Tested as facts
use Rattle.theory.specs.Tested.{TestedPoints}
use Rattle.terms.specs.declared.lent.Faces as code_faces
use Rattle.region.specs.declared.tested.TestedFaces.{TestedFaces}
use Rattle.region.specs.Ranges.{KnownFaces}
use Rattle.descent.specs.Root.{Shelved}

module _ (s : Stock) (o : Order) {run : List ℕ} (is : run ≡ shelf_run s o) where
  -- They are the shelf of the stock;
  pub run_shelved : TestedPoints s → is_shelf s o ≡ true → Shelved s.k s.n s.points run
  run_shelved tested shelf = rw is (record { live = s.live; tested = tested; shelf = shelf })

  -- as many as numbers are live,
  pub run_length : slots_of s ≤ length o.slots → length run ≡ slots_of s
  run_length room = rw is (length-take-le _ _ room)

  -- which are few.
  pub run_few : TestedPoints s → slots_of s ≤ length o.slots → length run ≤ 65535
  run_few tested room = omega (arith, run_length room, stock_few s, tested.many)

-- Faces that were tested are known.
pub faces_known : (k : ℕ) (f : Faces) → k ≤ 4 → facts.TestedFaces k f → KnownFaces k (faces_of f.normals f.offsets f.marks)
faces_known k f few faced = rw faced.offsets_size (record { few = few; tested = faced })

-- The value has k and the lent slices of these faces.
pub record FacesAs (k : ℕ) (f : code_faces.Faces) (t : TestedFaces) : Type 0 where
  pub k_is : t.k ≡ k
  pub normals_are : t.normals.now ≡ f.normals.now
  pub offsets_are : t.offsets.now ≡ f.offsets.now
  pub marks_are : t.marks.now ≡ f.marks.now
