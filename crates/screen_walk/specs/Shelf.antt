-- The screen of a whole shelf: the root is a branch of all slots that splits on dimension 0, in the root box, and what its screen finds is what the words say of the shelf.
use Rattle.std.specs.Prelude.{◌≡◌, refl, Bool, true, false, List, [], ◌∷◌, map, ℕ, ◌<◌, length, take, is_some, unwrap_or, ℤ}
use Rattle.std.proofs.Common.{sym, ◌∙◌, arith}
use Rattle.std.proofs.Math.Path.{ap}
use Rattle.std.proofs.Math.Seq.{take-length}
use Rattle.terms.specs.Tests.{count, keep}
use Rattle.terms.specs.Lent.{Faces, faces_of}
use Rattle.terms.specs.Box.{Box, root_box, boxes, shelf_boxes}
use Rattle.terms.specs.Region.{Region, region, inside, is_open}
use Rattle.terms.specs.Visits.{open_slots}
use Rattle.terms.specs.Lists.{insides}
use Rattle.terms.specs.Screen.{inside_slots, up_to_first, screen_visits}
use Rattle.theory.specs.Boxes.{Alike}
use Rattle.theory.specs.BoxesAlike.{tests_alike}
use Rattle.theory.specs.Nesting.{open_alike}
use Rattle.theory.specs.FirstInside.{count_take}
use Rattle.region.specs.Table.{Tabled, tabled, inside_tabled, open_tabled}
use Rattle.descent.specs.Slots.{run_of}
use Rattle.descent.specs.Faced.{Faced}
use Rattle.descent.specs.SlotBoxes.{slot_boxes}
use Rattle.descent.specs.Root.{Rooted, boxed_root}
use Rattle.screen_walk.specs.declared.Seen.{Seen}
use Rattle.screen_walk.specs.Screened.{Screened, opens_seen}
use Rattle.screen_walk.specs.Parts.{Screenable}

-- The root can be screened.
pub screenable_root : {k : ℕ} {points : List ℤ} {order : List ℕ} {f : Faces} {b : Box} {live : List ℕ} {count : ℕ}
    → Rooted k points order b → Faced k f b live count → Screenable k points order f 0 (length order) 0 b live count 0
screenable_root r faced = record { standing = r.standing; boxed = boxed_root r; faced = faced; seen = omega arith }

-- What the screen of a shelf finds and answers.
pub record ShelfScreened (g : Region) (at : ℕ → ℕ → ℤ) (order : List ℕ) (found : Bool) (number u : ℕ) : Type 0 where
  pub none : found ≡ false → insides g at order ≡ []
  pub one : found ≡ true → (rest : List ℕ) × (insides g at order ≡ number ∷ rest)
  pub visited : u ≡ screen_visits g at order

-- The same, read off the value that the screen gives.
abbrev pub ShelfSeen : Region → (ℕ → ℕ → ℤ) → List ℕ → Seen → Type 0
ShelfSeen g at order seen = ShelfScreened g at order (is_some seen.number) (unwrap_or seen.number 0) seen.visits

-- The open boxes that are seen from the root's box are those seen from the root box of the slots.
root_seen : (g : Region) (at : ℕ → ℕ → ℤ) (order : List ℕ) {b : Box} → (0 < length order → Alike g.k b (root_box at order))
    → opens_seen g at order (boxes (length order) g.k at 0 order b) ≡ screen_visits g at order
unfolding boxes screen_visits open_slots inside_slots up_to_first count
root_seen g at [] same = refl
root_seen g at (x ∷ xs) {b} same =
    let order : List ℕ = x ∷ xs in
    let m : ℕ = up_to_first (inside_slots g at order) in
    count_take (is_open g) m (boxes (length order) g.k at 0 order b)
    ∙ ap (λ (ts : List Bool). count (λ t. t) (take m ts)) (tests_alike g.k at (is_open g) (λ b c. open_alike g) (length order) 0 order (same (omega arith)))

-- The root's screen is the screen of the shelf.
pub shelf_screened : {g : Region} {at : ℕ → ℕ → ℤ} {order : List ℕ} {b : Box} {found : Bool} {number u : ℕ} → (0 < length order → Alike g.k b (root_box at order))
    → Screened g at (run_of order 0 (length order)) (slot_boxes g.k at order 0 (length order) 0 b) 0 found number u → ShelfScreened g at order found number u
shelf_screened {g} {at} {order} same w =
    let v = rw (take-length order) at w in
    record { none = v.none; one = v.one; visited = omega (arith, v.visits, root_seen g at order same) }

-- What it finds by the table of the faces is what it finds by the faces.
module _ {k : ℕ} {normals table : List ℤ} (offsets : List ℤ) (marks : List ℕ) (at : ℕ → ℕ → ℤ) (order : List ℕ) (t : Tabled k normals (length offsets) table) where
  abbrev by_table : Region
  by_table = tabled k (faces_of table offsets marks)

  abbrev by_faces : Region
  by_faces = region k (faces_of normals offsets marks)

  insides_same : insides by_table at order ≡ insides by_faces at order
  insides_same = ap (λ (test : (ℕ → ℤ) → Bool). keep (λ p. test (at p)) order) (inside_tabled offsets marks t)

  visits_same : screen_visits by_table at order ≡ screen_visits by_faces at order
  unfolding screen_visits open_slots inside_slots
  visits_same =
      ap
      (λ (test : (ℕ → ℤ) → Bool). count (λ t. t) (take (up_to_first (map (λ p. test (at p)) order)) (map (is_open by_table) (shelf_boxes k at order))))
      (inside_tabled offsets marks t)
      ∙ ap
      (λ (test : Box → Bool). count (λ t. t) (take (up_to_first (map (λ p. inside by_faces (at p)) order)) (map test (shelf_boxes k at order))))
      (open_tabled offsets marks t)

  pub screened_by_faces : {found : Bool} {number u : ℕ} → ShelfScreened by_table at order found number u → ShelfScreened by_faces at order found number u
  screened_by_faces w = record {
    none = λ e. sym insides_same ∙ w.none e;
    one = λ e. let z = w.one e in (z.0, sym insides_same ∙ z.1);
    visited = w.visited ∙ visits_same;
  }
