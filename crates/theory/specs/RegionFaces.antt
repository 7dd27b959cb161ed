-- The faces of each of several regions, where their face counts and the joined slices were passed: each region has its part of the slices, and its faces alone
-- would be passed. The counts before a region and its own are at most the whole, and what every item of a list passes, the items of a part pass.
use Rattle.std.specs.Prelude.{◌≡◌, List, ℕ, ◌+◌, ◌*◌, ◌≤◌, ◌<◌, length, drop, pos}
use Rattle.std.proofs.Common.{mul-add, mul-le-mul_left, arith, length-drop, length-take-le}
use Rattle.whole.proofs.IndexedTotal.{total_part}
use Rattle.terms.specs.Lent.{Regions}
use Rattle.terms.specs.EndToEnd.{part}
use Rattle.terms.specs.RegionFaces.{faces_in, faces_before, joined_faces, faces_of_region}
use Rattle.terms.specs.Region.{is_component, is_offset, is_mark}
use Rattle.terms.specs.Refusals.{face_counts_refusals, face_slice_refusals, face_refusals}
use Rattle.terms.specs.ListRegionsCall.{region_face_refusals}
use Rattle.theory.specs.Counting.{every_part}
use Rattle.theory.specs.Tested.{TestedFaces}
use Rattle.theory.specs.FirstRefusal.{Passed, passed_parts}
use Rattle.theory.specs.RefusalsPassed.{SlicesFit, slices_fit, fit_faces, faces_passed, face_counts_passed}

-- A part within a list has as many items as it asks for.
pub part_length : {A : Type 0} (a c : ℕ) (xs : List A) → a + c ≤ length xs → length (part a c xs) ≡ c
part_length a c xs l = length-take-le c (drop a xs) (omega (arith, length-drop a xs))

-- Region r has its part of each of the joined slices.
pub record HasParts (k : ℕ) (g : Regions) (r : ℕ) : Type 0 where
  pub normals_room : k * faces_before g.face_counts r + k * faces_in g.face_counts r ≤ length g.normals
  pub offsets_room : faces_before g.face_counts r + faces_in g.face_counts r ≤ length g.offsets
  pub marks_room : faces_before g.face_counts r + faces_in g.face_counts r ≤ length g.marks

-- Regions of at most four dimensions: each has its part of the joined slices, whose 6, 7, 8 and 11 were tested.
pub record TestedRegions (k : ℕ) (g : Regions) : Type 0 where
  pub few : k ≤ 4
  pub parts : (r : ℕ) → r < g.region_count → HasParts k g r
  pub tested : (r : ℕ) → r < g.region_count → TestedFaces k (faces_of_region k g r)

module _ (k : ℕ) (g : Regions) (counted : length g.face_counts ≡ g.region_count) (w : Passed (region_face_refusals k g)) (r : ℕ) (l : r < g.region_count) where
  joined : SlicesFit k (joined_faces g)
  joined = slices_fit k (joined_faces g) (passed_parts (face_counts_refusals g.face_counts) (face_slice_refusals k (joined_faces g)) w).1

  region_parts : HasParts k g r
  region_parts =
      let all = total_part g.region_count (faces_in g.face_counts) r l in
      let sized = joined.sized in
      record {
        normals_room = omega (arith, sized.normals_size, mul-add k (faces_before g.face_counts r) (faces_in g.face_counts r), mul-le-mul_left k all);
        offsets_room = omega (arith, sized.offsets_size);
        marks_room = omega (arith, sized.marks_size);
      }

  -- "Number 6 applies to each region, 7 and 11 to the joined slices": so the faces of each region alone would be passed.
  pub region_faces_passed : Passed (face_refusals k (faces_of_region k g r))
  region_faces_passed =
      let p = region_parts in
      let f : ℕ = faces_before g.face_counts r in
      let h : ℕ = faces_in g.face_counts r in
      fit_faces k (faces_of_region k g r) (record {
        many = face_counts_passed g.face_counts (passed_parts (face_counts_refusals g.face_counts) (face_slice_refusals k (joined_faces g)) w).0 r (omega arith);
        slices = record {
          sized = record {
            normals_size = part_length (k * f) (k * h) g.normals p.normals_room;
            offsets_size = part_length f h g.offsets p.offsets_room;
            marks_size = part_length f h g.marks p.marks_room;
          };
          components = every_part (pos 0) is_component (k * f) (k * h) g.normals joined.components;
          offsets_range = every_part (pos 0) is_offset f h g.offsets joined.offsets_range;
          marks_range = every_part 0 is_mark f h g.marks joined.marks_range;
        };
      })

-- What was tested of the regions.
pub regions_tested : (k : ℕ) (g : Regions) → k ≤ 4 → length g.face_counts ≡ g.region_count → Passed (region_face_refusals k g) → TestedRegions k g
regions_tested k g few counted w = record {
  few = few;
  parts = λ r l. region_parts k g counted w r l;
  tested = λ r l. faces_passed k (faces_of_region k g r) (region_faces_passed k g counted w r l);
}
