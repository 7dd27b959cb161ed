-- Several regions of a shelf: room for each in both buffers, what stands there once the first of them are listed, and one region more.
use Rattle.std.specs.Prelude.{◌≡◌, refl, List, ◌++◌, ℕ, ◌+◌, ◌*◌, ◌≤◌, ◌<◌, length, take, drop, ℤ}
use Rattle.std.proofs.Common.{subst, mul-le-mul_right, suc-mul, arith}
use Rattle.whole.specs.IndexedTotal.{total_to}
use Rattle.whole.proofs.IndexedTotal.{total_next}
use Rattle.terms.specs.Lent.{Faces, Regions, faces_of}
use Rattle.terms.specs.RegionFaces.{faces_in, faces_before, faces_of_region}
use Rattle.terms.specs.Region.{region}
use Rattle.terms.specs.ListRegionsCall.{region_at, region_places, region_counts}
use Rattle.theory.specs.InsideAndOutside.{places_length}
use Rattle.theory.specs.RegionFaces.{HasParts, TestedRegions, part_length}
use Rattle.regions_walk.specs.Buffers.{FilledTo, filled_none, filled_length, filled_next}
use Rattle.regions_walk.specs.RegionListed.{RegionListed}

-- Room for so many regions of a shelf: a place for each slot and three counts, region after region; and the slots are few enough to be counted.
pub record RoomForRegions (regions : ℕ) (run lists counts : List ℕ) : Type 0 where
  pub few : length run ≤ 65535
  pub lists_room : regions * length run ≤ length lists
  pub counts_room : regions * 3 ≤ length counts

-- The first r regions have their places and their counts, and behind them both buffers are as they were.
pub record RegionsListed (k : ℕ) (g : Regions) (at : ℕ → ℕ → ℤ) (run lists counts : List ℕ) (r : ℕ) (after_lists after_counts : List ℕ) : Type 0 where
  pub listed : FilledTo (region_places k g at run) (length run) r lists after_lists
  pub counted : FilledTo (region_counts k g at run) 3 r counts after_counts

-- Those before region r are listed, and its faces start here.
pub record Reached (k : ℕ) (g : Regions) (at : ℕ → ℕ → ℤ) (run lists counts : List ℕ) (r face : ℕ) (after_lists after_counts : List ℕ) : Type 0 where
  pub few : r ≤ g.region_count
  pub faces : face ≡ faces_before g.face_counts r
  pub done : RegionsListed k g at run lists counts r after_lists after_counts

-- Room for region r: its part of each of the joined slices, and of both buffers.
pub record Rooms (k : ℕ) (g : Regions) (run lists counts : List ℕ) (r face : ℕ) : Type 0 where
  pub components_room : k * face + k * faces_in g.face_counts r ≤ length g.normals
  pub offsets_room : face + faces_in g.face_counts r ≤ length g.offsets
  pub marks_room : face + faces_in g.face_counts r ≤ length g.marks
  pub places_room : r * length run + length run ≤ length lists
  pub three_room : r * 3 + 3 ≤ length counts

-- Before the first region.
pub reached_first : (k : ℕ) (g : Regions) (at : ℕ → ℕ → ℤ) (run lists counts : List ℕ) → Reached k g at run lists counts 0 0 lists counts
unfolding total_to
reached_first k g at run lists counts = record {
  few = omega arith;
  faces = refl;
  done = record { listed = filled_none _ (length run) lists; counted = filled_none _ 3 counts };
}

-- A region's faces as they are lent out of the joined slices.
pub lent_faces : (k : ℕ) (g : Regions) {r face : ℕ} (components many : ℕ) → HasParts k g r → face ≡ faces_before g.face_counts r → components ≡ k * faces_in g.face_counts r → many ≡ faces_in g.face_counts r
    → faces_of (take components (drop (k * face) g.normals)) (take many (drop face g.offsets)) (take many (drop face g.marks)) ≡ faces_of_region k g r
lent_faces k g {r} components many w starts c m = rw (starts, c, m, part_length (faces_before g.face_counts r) (faces_in g.face_counts r) g.offsets w.offsets_room)

-- A part as it is lent has as many items as it asks for.
pub lent_length : {A : Type 0} (xs : List A) (a c size : ℕ) → size ≡ c → a + c ≤ length xs → length (take size (drop a xs)) ≡ c
lent_length xs a c size e l = rw e (part_length a c xs l)

module _ {k : ℕ} {g : Regions} {at : ℕ → ℕ → ℤ} {run lists counts : List ℕ} {r face : ℕ} {after_lists after_counts : List ℕ}
    (w : Reached k g at run lists counts r face after_lists after_counts) (room : RoomForRegions g.region_count run lists counts) where
  -- Each region's places are as many as the slots, and its counts are three.
  sizes : (i : ℕ) → length (region_places k g at run i) ≡ length run
  sizes i = places_length (region_at k g i) at run

  threes : (i : ℕ) → length (region_counts k g at run i) ≡ 3
  threes i = refl

  -- Both buffers are as long as they were lent.
  pub lists_length : length after_lists ≡ length lists
  lists_length = filled_length sizes w.done.listed (omega (arith, mul-le-mul_right (length run) w.few, room.lists_room))

  pub counts_length : length after_counts ≡ length counts
  counts_length = filled_length threes w.done.counted (omega (arith, w.few, room.counts_room))

  module _ (l : r < g.region_count) where
    -- What the next region is lent lies within the slices and the buffers.
    pub reached_rooms : TestedRegions k g → Rooms k g run after_lists after_counts r face
    reached_rooms tested =
        let p = tested.parts r l in
        record {
          components_room = rw w.faces p.normals_room;
          offsets_room = rw w.faces p.offsets_room;
          marks_room = rw w.faces p.marks_room;
          places_room = omega (arith, lists_length, suc-mul r (length run), mul-le-mul_right (length run) l, room.lists_room);
          three_room = omega (arith, counts_length, room.counts_room);
        }

    -- It is listed in its part of each, and the faces of the one after it start behind its own.
    pub reached_next : {f : Faces} {own three : List ℕ} {next_face : ℕ} (place slots count size : ℕ) → place ≡ r * length run → slots ≡ length run → count ≡ r * 3 → size ≡ 3
        → next_face ≡ face + faces_in g.face_counts r → f ≡ faces_of_region k g r → RegionListed (region k f) at run own three
        → Reached k g at run lists counts (r + 1) next_face
        (take place after_lists ++ (own ++ drop slots (drop place after_lists)))
        (take count after_counts ++ (three ++ drop size (drop count after_counts)))
    reached_next {own = own} {three} place slots count size starts many third sized faces same v =
        let u = subst (λ (f : Faces). RegionListed (region k f) at run own three) same v in
        record {
          few = omega arith;
          faces = rw (faces, w.faces) (total_next r (faces_in g.face_counts));
          done = record {
            listed = filled_next sizes w.done.listed starts many u.listed;
            counted = filled_next threes w.done.counted third sized u.counted;
          };
        }
