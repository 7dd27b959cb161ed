-- The demands, read off the contract of the call that lists several regions, and how what it leaves for each region stands to the list call on that region's faces
-- alone. Each follows from `theory` in a few lines.
use Rattle.std.specs.Prelude.{◌≡◌, refl, ◌≢◌, true, false, List, ℕ, ◌+◌, ◌*◌, ◌≤◌, ◌<◌, length, get_or, take, drop, replicate, ltb}
use Rattle.std.proofs.Common.{sym, ap, ◌∙◌, arith, get_or-take, get_or-drop, take_all}
use Rattle.std.proofs.lemmas.List.{length-replicate}
use Rattle.whole.specs.IndexedTotal.{total_to}
use Rattle.terms.specs.declared.Listing.{Listing}
use Rattle.terms.specs.Lent.{Stock, Order, Faces, Regions}
use Rattle.terms.specs.Points.{belongs_to, slots_of}
use Rattle.terms.specs.Tree.{each_once, shelf_run, is_shelf}
use Rattle.terms.specs.EndToEnd.{part}
use Rattle.terms.specs.RegionFaces.{faces_in, faces_of_region}
use Rattle.terms.specs.ThreeCounts.{counts_of}
use Rattle.terms.specs.Bound.{S, is_square}
use Rattle.terms.specs.ListCall.{list_code, list_answer, list_after, ListedAs}
use Rattle.terms.specs.ListRegionsCall.{list_regions_refusals, region_at, list_regions_code, RegionsListedAs}
use Rattle.theory.specs.FirstRefusal.{FirstHeld}
use Rattle.theory.specs.FaceLentAlone.{face_alone}
use Rattle.theory.specs.ListCall.{listed_code, list_length}
use Rattle.theory.specs.ListRegionsCall.{
  list_regions_first,
  list_regions_refused,
  list_regions_code_reads,
  lists_after_reads,
  counts_after_reads,
  lists_later,
  counts_later,
  region_done,
  region_lists,
  region_counts_lem,
  list_regions_nine,
}
use Rattle.hornherder.specs.ListPromises.{list_counts_v, list_holds_each_once, visits_at_most_the_faces, visits_at_most_h_s}

module _ (s : Stock) (o : Order) (g : Regions) (lists counts : List ℕ) {a : ℕ} {x y : List ℕ} (e : RegionsListedAs s o g lists counts a x y) where
  -- Two outcomes that satisfy the contract are equal.
  pub list_regions_once : {b : ℕ} {v w : List ℕ} → RegionsListedAs s o g lists counts b v w → (a ≡ b) × (x ≡ v) × (y ≡ w)
  list_regions_once f = (e.answered ∙ sym f.answered, e.listed ∙ sym f.listed, e.counted ∙ sym f.counted)

  -- The number is the first refusal that holds in the order of testing, 14 "just before 4", and 0 where none does.
  pub list_regions_answers_the_first : FirstHeld (list_regions_refusals s o g lists counts) a
  list_regions_answers_the_first = rw e.answered (list_regions_first s o g lists counts)

  -- "... and nothing is written."
  pub list_regions_refused_writes_nothing : a ≢ 0 → (x ≡ lists) × (y ≡ counts)
  list_regions_refused_writes_nothing m =
      let w = list_regions_refused s o g lists counts (λ z. m (e.answered ∙ z)) in
      (e.listed ∙ w.0, e.counted ∙ w.1)

  -- "The list calls still refuse a wrong order": where the call is done with another order, it is 9 with one that is not the shelf.
  pub list_regions_nine_for_a_wrong_order : (q : Order) → list_regions_code s q g lists counts ≡ 0 → slots_of s ≤ length o.slots → is_shelf s o ≡ false → a ≡ 9
  list_regions_nine_for_a_wrong_order q z room other = e.answered ∙ list_regions_nine s o q g lists counts z room other

  -- Neither the order's places from v on nor what the buffers held before is read: only whether they have room, and what they keep.
  module _ (q : Order) (list_buffer counts_buffer : List ℕ) (slots : shelf_run s o ≡ shelf_run s q)
      (list-rooms : ltb (length lists) (g.region_count * slots_of s) ≡ ltb (length list_buffer) (g.region_count * slots_of s))
      (count-rooms : ltb (length counts) (g.region_count * 3) ≡ ltb (length counts_buffer) (g.region_count * 3))
      {b : ℕ} {v w : List ℕ} (f : RegionsListedAs s q g list_buffer counts_buffer b v w) where
    pub list_regions_reads_v_slots : a ≡ b
    list_regions_reads_v_slots = e.answered ∙ list_regions_code_reads s o q g lists counts list_buffer counts_buffer slots list-rooms count-rooms ∙ sym f.answered

    pub list_regions_leaves_the_same_lists : drop (g.region_count * slots_of s) lists ≡ drop (g.region_count * slots_of s) list_buffer → a ≡ 0 → x ≡ v
    list_regions_leaves_the_same_lists later done =
        e.listed ∙ lists_after_reads s o q g lists counts list_buffer counts_buffer slots list-rooms count-rooms (sym e.answered ∙ done) later ∙ sym f.listed

    pub list_regions_leaves_the_same_counts : drop (g.region_count * 3) counts ≡ drop (g.region_count * 3) counts_buffer → a ≡ 0 → y ≡ w
    list_regions_leaves_the_same_counts later done =
        e.counted ∙ counts_after_reads s o q g lists counts list_buffer counts_buffer slots list-rooms count-rooms (sym e.answered ∙ done) later ∙ sym f.counted

  module _ (done : a ≡ 0) where
    accepted : list_regions_code s o g lists counts ≡ 0
    accepted = sym e.answered ∙ done

    -- "Later places of both buffers stay."
    pub list_regions_keeps_later_lists : drop (g.region_count * slots_of s) x ≡ drop (g.region_count * slots_of s) lists
    list_regions_keeps_later_lists = rw e.listed (lists_later s o g lists counts accepted)

    pub list_regions_keeps_later_counts : drop (g.region_count * 3) y ≡ drop (g.region_count * 3) counts
    list_regions_keeps_later_counts = rw e.counted (counts_later s o g lists counts accepted)

    module _ (r : ℕ) (l : r < g.region_count) where
      -- The faces of region r, its places and its counts.
      abbrev f : Faces
      f = faces_of_region s.k g r

      abbrev places_of_region : List ℕ
      places_of_region = part (r * slots_of s) (slots_of s) x

      abbrev counts_of_region : List ℕ
      counts_of_region = part (r * 3) 3 y

      -- "Region by region everything equals the single call": beside the list call on the faces of region r alone, with a list buffer that has room.
      module _ {list : List ℕ} (room : slots_of s ≤ length list) {b : Listing} {z : List ℕ} (single : ListedAs s o f list b z) where
        single_done : list_code s o f list ≡ 0
        single_done = region_done s o g lists counts accepted r l list room

        -- It is accepted,
        pub region_is_accepted : b.code ≡ 0
        region_is_accepted = listed_code s o f list single ∙ single_done

        -- its first v places are the region's,
        pub region_places_are_the_list_call_s : places_of_region ≡ take (slots_of s) z
        region_places_are_the_list_call_s = rw (e.listed, single.written) (region_lists s o g lists counts accepted r l list room)

        -- and so are all of them where it has no more,
        pub region_places_are_its_whole_list : length list ≡ slots_of s → places_of_region ≡ z
        region_places_are_its_whole_list size =
            region_places_are_the_list_call_s
            ∙ rw single.written (take_all (slots_of s) (list_after s o f list) (omega (arith, list_length s o f list single_done)))

        -- and its answer has the region's three counts: inside, outside, visits.
        pub region_counts_are_the_list_call_s : counts_of_region ≡ counts_of b
        region_counts_are_the_list_call_s = rw (e.counted, single.answered) (region_counts_lem s o g lists counts accepted r l list room)

      -- The list call on the faces of region r alone, with a list buffer of v zeros.
      abbrev zeros : List ℕ
      zeros = replicate (slots_of s) 0

      zeros_room : slots_of s ≤ length zeros
      zeros_room = omega (arith, length-replicate {A = ℕ} (slots_of s) 0)

      alone : ListedAs s o f zeros (list_answer s o f zeros) (list_after s o f zeros)
      alone = record { answered = refl; written = refl }

      alone_done : (list_answer s o f zeros).code ≡ 0
      alone_done = region_is_accepted zeros_room alone

      -- A count of the region is that call's.
      count_at : (i : ℕ) → i < 3 → get_or y (r * 3 + i) 0 ≡ get_or (counts_of (list_answer s o f zeros)) i 0
      count_at i m =
          sym (get_or-take 3 (drop (r * 3) y) i 0 m ∙ get_or-drop (r * 3) y i 0)
          ∙ ap (λ (ns : List ℕ). get_or ns i 0) (region_counts_are_the_list_call_s zeros_room alone)

      -- "Demands 2 and 3 hold of each": inside plus outside is v,
      pub region_counts_v : get_or y (r * 3 + 0) 0 + get_or y (r * 3 + 1) 0 ≡ slots_of s
      region_counts_v = omega (arith, count_at 0 (omega arith), count_at 1 (omega arith), list_counts_v s o f zeros alone alone_done)

      -- the region's places hold each number once,
      pub region_holds_each_once : each_once (belongs_to s) s.n places_of_region ≡ true
      region_holds_each_once = rw (region_places_are_the_list_call_s zeros_room alone) (list_holds_each_once s o f zeros alone alone_done)

      -- its visits are at most the sum of the visits of each of its faces taken as a region alone,
      pub region_visits_at_most_the_faces
          : get_or y (r * 3 + 2) 0 ≤ total_to (faces_in g.face_counts r) (λ i. (list_answer s o (face_alone s.k f i) zeros).visits)
      region_visits_at_most_the_faces = omega (arith, count_at 2 (omega arith), visits_at_most_the_faces s o f zeros alone)

      -- and where all its faces are square they are at most h times S(v, k).
      pub region_visits_at_most_h_s : ((i : ℕ) → i < faces_in g.face_counts r → is_square (region_at s.k g r) i ≡ true)
          → get_or y (r * 3 + 2) 0 ≤ faces_in g.face_counts r * S (slots_of s) s.k
      region_visits_at_most_h_s squares = omega (arith, count_at 2 (omega arith), visits_at_most_h_s s o f zeros alone squares)

  -- "One bad region refuses the whole call": where the list call on the faces of one region alone is refused, so is this one.
  pub bad_region_refuses : (r : ℕ) → r < g.region_count → {list : List ℕ} → slots_of s ≤ length list → {b : Listing} {z : List ℕ}
      → ListedAs s o (faces_of_region s.k g r) list b z → b.code ≢ 0 → a ≢ 0
  bad_region_refuses r l room single bad done = bad (region_is_accepted done r l room single)
