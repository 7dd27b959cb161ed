-- The call that lists several regions: the first refusal is its number, what it has tested where that is 0, what it reads of the order and of the buffers, and what
-- it writes. Done, the list call on the faces of any one region is done too, and gives what stands in that region's places and counts.
use Rattle.std.specs.Prelude.{◌≡◌, ◌≢◌, true, false, ℕ, ◌*◌, ◌≤◌, ◌<◌, length, take, ltb}
use Rattle.std.proofs.Math.Path.{refl}
use Rattle.std.proofs.Common.{sym, ap, ◌∙◌, length-take-le, le-ltb}
use mathlib.Core.List.{List, ◌++◌}
use Rattle.std.proofs.Math.ListN.{drop}
use Rattle.terms.specs.Lent.{Stock, Order, Regions}
use Rattle.terms.specs.Points.{point_of, slots_of}
use Rattle.terms.specs.Tree.{shelf_run, is_shelf}
use Rattle.terms.specs.EndToEnd.{end_to_end, part}
use Rattle.terms.specs.RegionFaces.{faces_of_region}
use Rattle.terms.specs.ThreeCounts.{counts_of}
use Rattle.terms.specs.Refusals.{Refusal, first_of, stock_refusals, region_count_refusals, room_refusals, live_coordinate_refusals, tree_refusals}
use Rattle.terms.specs.ListCall.{list_code, list_answer, list_after}
use Rattle.terms.specs.ListRegionsCall.{
  region_face_refusals,
  list_regions_refusals,
  region_at,
  region_places,
  region_counts,
  list_regions_code,
  lists_after,
  counts_after,
}
use Rattle.theory.specs.Tested.{TestedPoints}
use Rattle.theory.specs.InsideAndOutside.{places_length}
use Rattle.theory.specs.FirstRefusal.{Passed, FirstHeld, no_zero, first_held, first_skip, passed_parts, passed_join, passed_next, passed_none, if_refused}
use Rattle.theory.specs.RefusalsPassed.{RegionsCounted, region_count_passed, stock_passed, room_passed, tree_passed}
use Rattle.theory.specs.EndToEnd.{ends_part, ends_later}
use Rattle.theory.specs.RegionFaces.{TestedRegions, regions_tested, region_faces_passed}
use Rattle.theory.specs.ArrangeCall.{room_same}
use Rattle.theory.specs.ListCall.{groups_listed, list_front}

-- What the call has tested.
pub record RegionsPassed (s : Stock) (o : Order) (g : Regions) (lists counts : List ℕ) : Type 0 where
  pub tested : TestedPoints s
  pub counted : RegionsCounted g.region_count g.face_counts
  pub room : slots_of s ≤ length o.slots
  pub lists_room : g.region_count * slots_of s ≤ length lists
  pub counts_room : g.region_count * 3 ≤ length counts
  pub regions : TestedRegions s.k g
  pub shelf : is_shelf s o ≡ true

-- Its groups, each passed.
record RegionGroups (s : Stock) (o : Order) (g : Regions) (lists counts : List ℕ) : Type 0 where
  shape : Passed (stock_refusals s)
  counted : Passed (region_count_refusals g.region_count g.face_counts)
  order_room : Passed (room_refusals (slots_of s) (length o.slots))
  lists_room : Passed (room_refusals (g.region_count * slots_of s) (length lists))
  counts_room : Passed (room_refusals (g.region_count * 3) (length counts))
  coordinates : Passed (live_coordinate_refusals s)
  faces : Passed (region_face_refusals s.k g)
  tree : Passed (tree_refusals s o)

module _ (s : Stock) (o : Order) (g : Regions) (lists counts : List ℕ) where
  -- "Tested just before 4", and the others as in the list call: the first in the order of testing; and 0 where none holds.
  pub list_regions_first : FirstHeld (list_regions_refusals s o g lists counts) (list_regions_code s o g lists counts)
  unfolding no_zero list_regions_code
  list_regions_first = first_held (list_regions_refusals s o g lists counts) refl

  region_groups : list_regions_code s o g lists counts ≡ 0 → RegionGroups s o g lists counts
  region_groups e =
      let N : List Refusal = region_count_refusals g.region_count g.face_counts in
      let O : List Refusal = room_refusals (slots_of s) (length o.slots) in
      let L : List Refusal = room_refusals (g.region_count * slots_of s) (length lists) in
      let M : List Refusal = room_refusals (g.region_count * 3) (length counts) in
      let C : List Refusal = live_coordinate_refusals s in
      let F : List Refusal = region_face_refusals s.k g in
      let T : List Refusal = tree_refusals s o in
      let a = passed_parts (stock_refusals s) (N ++ O ++ L ++ M ++ C ++ F ++ T) (list_regions_first.done e) in
      let b = passed_parts N (O ++ L ++ M ++ C ++ F ++ T) a.1 in
      let c = passed_parts O (L ++ M ++ C ++ F ++ T) b.1 in
      let d = passed_parts L (M ++ C ++ F ++ T) c.1 in
      let f = passed_parts M (C ++ F ++ T) d.1 in
      let h = passed_parts C (F ++ T) f.1 in
      let i = passed_parts F T h.1 in
      record { shape = a.0; counted = b.0; order_room = c.0; lists_room = d.0; counts_room = f.0; coordinates = h.0; faces = i.0; tree = i.1 }

  pub list_regions_passed : list_regions_code s o g lists counts ≡ 0 → RegionsPassed s o g lists counts
  list_regions_passed e =
      let w = region_groups e in
      let tested = stock_passed s w.shape w.coordinates in
      let counted = region_count_passed g.region_count g.face_counts w.counted in
      record {
        tested = tested;
        counted = counted;
        room = room_passed (slots_of s) (length o.slots) w.order_room;
        lists_room = room_passed (g.region_count * slots_of s) (length lists) w.lists_room;
        counts_room = room_passed (g.region_count * 3) (length counts) w.counts_room;
        regions = regions_tested s.k g tested.few counted.counted w.faces;
        shelf = tree_passed s o w.tree;
      }

  -- "A refusal changes no lent number": "one bad region refuses the whole call and nothing is written".
  pub list_regions_refused : list_regions_code s o g lists counts ≢ 0 → (lists_after s o g lists counts ≡ lists) × (counts_after s o g lists counts ≡ counts)
  unfolding lists_after counts_after
  list_regions_refused r = (if_refused (list_regions_code s o g lists counts) _ lists r, if_refused (list_regions_code s o g lists counts) _ counts r)

  module _ (done : list_regions_code s o g lists counts ≡ 0) where
    -- What each region gives for the lists and for the counts.
    abbrev places_of : ℕ → List ℕ
    places_of = region_places s.k g (point_of s) (shelf_run s o)

    abbrev numbers_of : ℕ → List ℕ
    numbers_of = region_counts s.k g (point_of s) (shelf_run s o)

    lists_filled : lists_after s o g lists counts ≡ end_to_end g.region_count places_of ++ drop (g.region_count * slots_of s) lists
    unfolding lists_after
    lists_filled = rw done

    counts_filled : counts_after s o g lists counts ≡ end_to_end g.region_count numbers_of ++ drop (g.region_count * 3) counts
    unfolding counts_after
    counts_filled = rw done

    -- The places of each region are as many as the slots.
    sizes : (r : ℕ) → length (places_of r) ≡ slots_of s
    sizes r = places_length (region_at s.k g r) (point_of s) (shelf_run s o) ∙ length-take-le (slots_of s) o.slots (list_regions_passed done).room

    -- "Later places of both buffers stay."
    pub lists_later : drop (g.region_count * slots_of s) (lists_after s o g lists counts) ≡ drop (g.region_count * slots_of s) lists
    lists_later = rw lists_filled (ends_later (slots_of s) places_of sizes g.region_count _)

    pub counts_later : drop (g.region_count * 3) (counts_after s o g lists counts) ≡ drop (g.region_count * 3) counts
    counts_later = rw counts_filled (ends_later 3 numbers_of (λ r. refl) g.region_count _)

    module _ (r : ℕ) (l : r < g.region_count) where
      lists_part : part (r * slots_of s) (slots_of s) (lists_after s o g lists counts) ≡ places_of r
      lists_part = rw lists_filled (ends_part (slots_of s) places_of sizes g.region_count _ r l)

      counts_part : part (r * 3) 3 (counts_after s o g lists counts) ≡ numbers_of r
      counts_part = rw counts_filled (ends_part 3 numbers_of (λ i. refl) g.region_count _ r l)

      -- The list call on the faces of region r, with a list buffer that has room.
      module _ (list : List ℕ) (room : slots_of s ≤ length list) where
        pub region_done : list_code s o (faces_of_region s.k g r) list ≡ 0
        region_done =
            let w = region_groups done in
            groups_listed s o (faces_of_region s.k g r) list (record {
              shape = w.shape;
              order_room = w.order_room;
              list_room = passed_next (le-ltb (length list) (slots_of s) room) passed_none;
              coordinates = w.coordinates;
              faces = region_faces_passed s.k g (list_regions_passed done).counted.counted w.faces r l;
              tree = w.tree;
            })

        -- "Region by region everything equals the single call."
        pub region_lists : part (r * slots_of s) (slots_of s) (lists_after s o g lists counts) ≡ take (slots_of s) (list_after s o (faces_of_region s.k g r) list)
        region_lists = lists_part ∙ sym (list_front s o (faces_of_region s.k g r) list region_done)

        pub region_counts_lem : part (r * 3) 3 (counts_after s o g lists counts) ≡ counts_of (list_answer s o (faces_of_region s.k g r) list)
        unfolding list_answer
        region_counts_lem = counts_part ∙ rw region_done refl

-- "The list calls still refuse a wrong order": where the call is done with one order, it gives 9 with any other that has room and is not the shelf.
pub list_regions_nine : (s : Stock) (o q : Order) (g : Regions) (lists counts : List ℕ) → list_regions_code s q g lists counts ≡ 0 → slots_of s ≤ length o.slots
    → is_shelf s o ≡ false → list_regions_code s o g lists counts ≡ 9
unfolding list_regions_code first_of
list_regions_nine s o q g lists counts e room other =
    let w = region_groups s q g lists counts e in
    let N : List Refusal = region_count_refusals g.region_count g.face_counts in
    let O : List Refusal = room_refusals (slots_of s) (length o.slots) in
    let L : List Refusal = room_refusals (g.region_count * slots_of s) (length lists) in
    let M : List Refusal = room_refusals (g.region_count * 3) (length counts) in
    let C : List Refusal = live_coordinate_refusals s in
    let F : List Refusal = region_face_refusals s.k g in
    let passed : Passed (stock_refusals s ++ N ++ O ++ L ++ M ++ C ++ F) =
    passed_join (stock_refusals s) (N ++ O ++ L ++ M ++ C ++ F) w.shape
    (passed_join N (O ++ L ++ M ++ C ++ F) w.counted
    (passed_join O (L ++ M ++ C ++ F) (passed_next (le-ltb (length o.slots) (slots_of s) room) passed_none)
    (passed_join L (M ++ C ++ F) w.lists_room
    (passed_join M (C ++ F) w.counts_room (passed_join C F w.coordinates w.faces))))) in
    first_skip (stock_refusals s ++ N ++ O ++ L ++ M ++ C ++ F) (tree_refusals s o) passed ∙ rw other refl

module _ (s : Stock) (o q : Order) (g : Regions) (lists counts list_buffer counts_buffer : List ℕ) (slots : shelf_run s o ≡ shelf_run s q)
    (list-rooms : ltb (length lists) (g.region_count * slots_of s) ≡ ltb (length list_buffer) (g.region_count * slots_of s))
    (count-rooms : ltb (length counts) (g.region_count * 3) ≡ ltb (length counts_buffer) (g.region_count * 3)) where
  -- The call's number is one of the first v slots of the order and of whether the buffers have room.
  pub list_regions_code_reads : list_regions_code s o g lists counts ≡ list_regions_code s q g list_buffer counts_buffer
  unfolding list_regions_code
  list_regions_code_reads = rw (room_same (slots_of s) o.slots q.slots slots, slots, list-rooms, count-rooms)

  module _ (done : list_regions_code s o g lists counts ≡ 0) where
    other_done : list_regions_code s q g list_buffer counts_buffer ≡ 0
    other_done = sym list_regions_code_reads ∙ done

    -- Done, nothing is left of what the buffers held but their later places.
    pub lists_after_reads : drop (g.region_count * slots_of s) lists ≡ drop (g.region_count * slots_of s) list_buffer
        → lists_after s o g lists counts ≡ lists_after s q g list_buffer counts_buffer
    unfolding lists_after
    lists_after_reads later =
        rw (done, other_done, later)
        (ap (λ (run : List ℕ). end_to_end g.region_count (region_places s.k g (point_of s) run) ++ drop (g.region_count * slots_of s) list_buffer) slots)

    pub counts_after_reads : drop (g.region_count * 3) counts ≡ drop (g.region_count * 3) counts_buffer
        → counts_after s o g lists counts ≡ counts_after s q g list_buffer counts_buffer
    unfolding counts_after
    counts_after_reads later =
        rw (done, other_done, later)
        (ap (λ (run : List ℕ). end_to_end g.region_count (region_counts s.k g (point_of s) run) ++ drop (g.region_count * 3) counts_buffer) slots)
