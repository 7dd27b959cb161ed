-- A face lent alone: its components, its offset and its mark cut out of the lent lists. As a region these are the face taken alone, so its visits are the
-- same; and where the call on all faces is done, the call on the one is.
use Rattle.std.specs.Prelude.{◌≡◌, refl, List, [], ◌∷◌, ℕ, ◌+◌, ◌*◌, ◌≤◌, ◌<◌, length, get_or, take, drop, ℤ, pos, ◌*ℤ◌}
use Rattle.std.proofs.Common.{sym, ap, ◌∙◌, mul-le-mul_right, suc-mul, arith, length-drop, get_or-take, get_or-drop, length-take-le}
use Rattle.whole.proofs.IndexedSum.{sum_same}
use Rattle.terms.specs.Tests.{every, all_to, any_to}
use Rattle.terms.specs.Lent.{Stock, Order, Faces, faces}
use Rattle.terms.specs.Box.{Box, root_box, shelf_boxes}
use Rattle.terms.specs.Region.{region, alone, above, above_at, by_sign, is_settled, is_open, is_component, is_offset, is_mark}
use Rattle.terms.specs.Visits.{visits}
use Rattle.terms.specs.Refusals.{face_refusals}
use Rattle.terms.specs.ListCall.{list_code}
use Rattle.theory.specs.Counting.{every_at, every_part, count_same}
use Rattle.theory.specs.AboveIsUpward.{above_same_face, above_alone}
use Rattle.theory.specs.BoxFuel.{visits_count}
use Rattle.theory.specs.FirstRefusal.{Passed}
use Rattle.theory.specs.RefusalsPassed.{faces_fit, fit_faces}
use Rattle.theory.specs.ListCall.{list_groups, other_faces_done}

-- Face i lent alone: its components, its offset and its mark.
abbrev pub face_alone : ℕ → Faces → ℕ → Faces
face_alone k f i = faces 1 (take k (drop (i * k) f.normals)) (get_or f.offsets i (pos 0) ∷ []) (get_or f.marks i 0 ∷ [])

module _ (k : ℕ) (f : Faces) (i : ℕ) where
  -- Its components as it is lent alone.
  abbrev normals : List ℤ
  normals = (face_alone k f i).normals

  lent_component : (d : ℕ) → d < k → get_or normals (0 * k + d) (pos 0) ≡ get_or f.normals (i * k + d) (pos 0)
  lent_component d l =
      let z : 0 * k + d ≡ d = omega arith in
      rw (z, get_or-take k (drop (i * k) f.normals) d (pos 0) l) (get_or-drop (i * k) f.normals d (pos 0))

  -- A corner that is chosen by the components is above the face lent alone exactly where it is above the face taken alone.
  lent_above : (corner : ℤ → ℕ → ℤ)
      → above (region k (face_alone k f i)) 0 (λ d. corner (get_or normals (0 * k + d) (pos 0)) d)
      ≡ above (alone (region k f) i) 0 (λ d. corner (get_or f.normals (i * k + d) (pos 0)) d)
  lent_above corner =
      above_same_face (region k (face_alone k f i)) (region k f) 0 i refl refl _
      ∙ ap (above_at (region k f) i) (sum_same k _ _ (λ d l. ap (λ (c : ℤ). c *ℤ corner c d) (lent_component d l)))
      ∙ sym (above_alone (region k f) i 0 _)

  lent_open : (b : Box) → is_open (region k (face_alone k f i)) b ≡ is_open (alone (region k f) i) b
  unfolding is_open is_settled any_to all_to
  lent_open b = rw (lent_above (λ c d. by_sign c (b.low d) (b.high d)), lent_above (λ c d. by_sign c (b.high d) (b.low d)))

  pub lent_visits : (at : ℕ → ℕ → ℤ) (run : List ℕ) → visits (region k (face_alone k f i)) at run ≡ visits (alone (region k f) i) at run
  lent_visits at run =
      visits_count _ at run
      ∙ count_same (root_box at run) _ _ (shelf_boxes k at run) (λ s l. lent_open (get_or (shelf_boxes k at run) s (root_box at run)))
      ∙ sym (visits_count (alone (region k f) i) at run)

-- Faces that were passed are passed one by one.
face_alone_passed : (k : ℕ) (f : Faces) → Passed (face_refusals k f) → (i : ℕ) → i < f.h → Passed (face_refusals k (face_alone k f i))
unfolding every
face_alone_passed k f w i l =
    let t = (faces_fit k f w).slices in
    let size = t.sized.normals_size in
    let room : k ≤ length (drop (i * k) f.normals) = omega (arith, length-drop (i * k) f.normals, mul-le-mul_right k l, suc-mul i k) in
    let offset = every_at is_offset (pos 0) f.offsets t.offsets_range i (omega (arith, t.sized.offsets_size)) in
    let mark = every_at is_mark 0 f.marks t.marks_range i (omega (arith, t.sized.marks_size)) in
    fit_faces k (face_alone k f i) (record {
      many = omega arith;
      slices = record {
        sized = record {
          normals_size = omega (arith, length-take-le k (drop (i * k) f.normals) room);
          offsets_size = refl;
          marks_size = refl;
        };
        components = every_part (pos 0) is_component (i * k) k f.normals t.components;
        offsets_range = rw offset;
        marks_range = rw mark;
      };
    })

-- Where the list call on all faces is done, so is the one on a face alone.
pub lent_done : (s : Stock) (o : Order) (f : Faces) (list : List ℕ) → list_code s o f list ≡ 0 → (i : ℕ) → i < f.h
    → list_code s o (face_alone s.k f i) list ≡ 0
lent_done s o f list e i l =
    other_faces_done s o f (face_alone s.k f i) list e (face_alone_passed s.k f (list_groups s o f list e).faces i l)
