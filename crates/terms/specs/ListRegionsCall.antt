-- The call that lists several regions: what it gives for any arguments, and both buffers afterwards, region after region.
use Rattle.std.specs.Prelude.{◌≡◌, List, ◌++◌, ℕ, ◌*◌, length, drop, ℤ}
use Rattle.terms.specs.Lent.{Stock, Order, Regions}
use Rattle.terms.specs.Points.{point_of, slots_of}
use Rattle.terms.specs.Tree.{shelf_run}
use Rattle.terms.specs.Region.{Region, region}
use Rattle.terms.specs.Lists.{places}
use Rattle.terms.specs.ListCall.{listing}
use Rattle.terms.specs.ThreeCounts.{counts_of}
use Rattle.terms.specs.RegionFaces.{joined_faces, faces_of_region}
use Rattle.terms.specs.EndToEnd.{end_to_end}
use Rattle.terms.specs.Refusals.{Refusal, first_of, stock_refusals, region_count_refusals, room_refusals, live_coordinate_refusals, face_counts_refusals, face_slice_refusals, tree_refusals, if_done}

-- 4: the order is short of its slots, the list buffer of as many places a region, or the counts buffer of three a region.
abbrev pub region_room_refusals : ℕ → ℕ → ℕ → ℕ → ℕ → List Refusal
region_room_refusals slots regions order lists counts = room_refusals slots order ++ room_refusals (regions * slots) lists ++ room_refusals (regions * 3) counts

-- 6 of each region, 7, 8 and 11 of the joined slices.
abbrev pub region_face_refusals : ℕ → Regions → List Refusal
region_face_refusals k g = face_counts_refusals g.face_counts ++ face_slice_refusals k (joined_faces g)

-- List regions: 1, 2, 3, 15, 14, 4 to 8, 11, then 9.
abbrev pub list_regions_refusals : Stock → Order → Regions → List ℕ → List ℕ → List Refusal
list_regions_refusals s o g lists counts =
    stock_refusals s
    ++ region_count_refusals g.region_count g.face_counts
    ++ region_room_refusals (slots_of s) g.region_count (length o.slots) (length lists) (length counts)
    ++ live_coordinate_refusals s
    ++ region_face_refusals s.k g
    ++ tree_refusals s o

-- Region r, cut by its faces.
abbrev pub region_at : ℕ → Regions → ℕ → Region
region_at k g r = region k (faces_of_region k g r)

-- The places of region r of a run: its two lists.
abbrev pub region_places : ℕ → Regions → (ℕ → ℕ → ℤ) → List ℕ → ℕ → List ℕ
region_places k g at run r = places (region_at k g r) at run

-- The counts of region r of a run: inside, outside and visits.
abbrev pub region_counts : ℕ → Regions → (ℕ → ℕ → ℤ) → List ℕ → ℕ → List ℕ
region_counts k g at run r = counts_of (listing (region_at k g r) at run)

module _ (s : Stock) (o : Order) (g : Regions) (lists counts : List ℕ) where
  -- The number that the call returns.
  unfoldable pub list_regions_code : ℕ
  list_regions_code = first_of (list_regions_refusals s o g lists counts)

  -- The list buffer afterwards: the places of each region, region after region, and the later ones as they were; refused, all are.
  unfoldable pub lists_after : List ℕ
  lists_after = if_done
      list_regions_code
      (end_to_end g.region_count (region_places s.k g (point_of s) (shelf_run s o)) ++ drop (g.region_count * slots_of s) lists)
      lists

  -- The counts buffer afterwards: the three counts of each region, region after region, and the later places as they were; refused, all are.
  unfoldable pub counts_after : List ℕ
  counts_after = if_done
      list_regions_code
      (end_to_end g.region_count (region_counts s.k g (point_of s) (shelf_run s o)) ++ drop (g.region_count * 3) counts)
      counts

  -- What the call does: its answer, and both buffers afterwards.
  pub record RegionsListedAs (answer : ℕ) (after_lists after_counts : List ℕ) : Type 0 where
    pub answered : answer ≡ list_regions_code
    pub listed : after_lists ≡ lists_after
    pub counted : after_counts ≡ counts_after
