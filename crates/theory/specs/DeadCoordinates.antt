-- "No answer depends on a dead number's coordinates, and 5 passes over them": two calls whose points differ only there answer alike and leave the same.
-- The tests read the live ones, so both are refused alike; where they are done, the slots hold live numbers, and all that is told of those is told alike.
use Rattle.std.specs.Prelude.{◌≡◌, true, ℤ}
use Rattle.std.proofs.Math.Path.{refl, ap, fun_ext}
use Rattle.std.proofs.Common.{arith}
use mathlib.Core.List.{List, ◌++◌}
use Prim.Native.Nat.{ℕ, zero, suc, ◌*◌, ◌≤◌, ◌<◌}
use Rattle.std.proofs.Math.ListN.{drop}
use Rattle.std.proofs.Math.IntN.{pos}
use Rattle.terms.specs.Tests.{every}
use Rattle.terms.specs.Lent.{Stock, Order, Faces, Regions, stock}
use Rattle.terms.specs.Live.{is_live}
use Rattle.terms.specs.Points.{coord, point_of, belongs_to, slots_of}
use Rattle.terms.specs.Tree.{each_once, is_tree, shelf_run, is_shelf}
use Rattle.terms.specs.Region.{Region, region}
use Rattle.terms.specs.Visits.{visits}
use Rattle.terms.specs.declared.Screening.{Screening}
use Rattle.terms.specs.Lists.{insides, places}
use Rattle.terms.specs.Screen.{has_first, first, screen_visits}
use Rattle.terms.specs.Explain.{reason_of}
use Rattle.terms.specs.EndToEnd.{end_to_end}
use Rattle.terms.specs.RegionFaces.{faces_of_region}
use Rattle.terms.specs.ThreeCounts.{counts_of}
use Rattle.terms.specs.Refusals.{first_of, if_done}
use Rattle.terms.specs.ArrangeCall.{arrange_code}
use Rattle.terms.specs.ListCall.{listing, list_code, list_answer, list_after}
use Rattle.terms.specs.ScreenCall.{screen_code, screen_answer}
use Rattle.terms.specs.ExplainCall.{explaining, explain_code, explain_answer}
use Rattle.terms.specs.ListRegionsCall.{region_places, region_counts, list_regions_code, lists_after, counts_after}
use Rattle.theory.specs.Flags.{and_true}
use Rattle.theory.specs.PointsThatBelong.{same_tree}
use Rattle.theory.specs.AnswersAlike.{same_insides, same_outsides, same_open_slots, same_inside_slots, same_reason}
use Rattle.theory.specs.MembersAlike.{MembersAlike, in_range_alike}
use Rattle.theory.specs.ListCall.{list_passed}
use Rattle.theory.specs.ScreenCall.{screen_passed}
use Rattle.theory.specs.ExplainCall.{explain_passed}
use Rattle.theory.specs.ListRegionsCall.{list_regions_passed}

-- The slots of a shelf hold numbers that belong.
shelf_belongs : (s : Stock) (o : Order) → is_shelf s o ≡ true → every (belongs_to s) (shelf_run s o) ≡ true
unfolding is_tree each_once
shelf_belongs s o e =
    (and_true (every (belongs_to s) (shelf_run s o)) (and_true (each_once (belongs_to s) s.n (shelf_run s o)) e).0).0

module _ {k : ℕ} (n : ℕ) (live : List ℕ) {points others : List ℤ} (w : MembersAlike k (is_live n live) points others) where
  agree : (p d : ℕ) → is_live n live p ≡ true → d < k → coord k points p d ≡ coord k others p d
  agree p d e l = (w.same p e).same d l

  -- Both orders are the shelf, or neither.
  pub shelf_alike : 1 ≤ k → (o : Order) → is_shelf (stock k n points live) o ≡ is_shelf (stock k n others live) o
  shelf_alike some o = same_tree k some (is_live n live) (coord k points) (coord k others) agree n (shelf_run (stock k n points live) o)

  -- What is told of a run of live numbers.
  module _ (some : 1 ≤ k) (run : List ℕ) (all : every (is_live n live) run ≡ true) (f : Faces) where
    abbrev g : Region
    g = region k f

    listing_alike : listing g (coord k points) run ≡ listing g (coord k others) run
    unfolding visits
    listing_alike = rw (
      same_insides g some (is_live n live) (coord k points) (coord k others) agree run all,
      same_outsides g some (is_live n live) (coord k points) (coord k others) agree run all,
      same_open_slots g some (is_live n live) (coord k points) (coord k others) agree run all,
    )

    places_alike : places g (coord k points) run ≡ places g (coord k others) run
    places_alike = rw (
      same_insides g some (is_live n live) (coord k points) (coord k others) agree run all,
      same_outsides g some (is_live n live) (coord k points) (coord k others) agree run all,
    )

-- ---- the tests
-- Each call is refused alike. Where k is 0 both are refused by 1.
module _ (n : ℕ) (live : List ℕ) (o : Order) where
  pub arrange_code_alike : (k : ℕ) {points others : List ℤ} → MembersAlike k (is_live n live) points others
      → arrange_code (stock k n points live) o ≡ arrange_code (stock k n others live) o
  unfolding arrange_code
  arrange_code_alike k w = rw (w.sizes, in_range_alike w n)

  list_code_alike : (f : Faces) (list : List ℕ) (k : ℕ) {points others : List ℤ} → MembersAlike k (is_live n live) points others
      → list_code (stock k n points live) o f list ≡ list_code (stock k n others live) o f list
  unfolding list_code first_of
  list_code_alike f list zero w = refl
  list_code_alike f list (suc k) w = rw (w.sizes, in_range_alike w n, shelf_alike n live w (omega arith) o)

  screen_code_alike : (f : Faces) (k : ℕ) {points others : List ℤ} → MembersAlike k (is_live n live) points others
      → screen_code (stock k n points live) o f ≡ screen_code (stock k n others live) o f
  unfolding screen_code first_of
  screen_code_alike f zero w = refl
  screen_code_alike f (suc k) w = rw (w.sizes, in_range_alike w n, shelf_alike n live w (omega arith) o)

  explain_code_alike : (f : Faces) (p k : ℕ) {points others : List ℤ} → MembersAlike k (is_live n live) points others
      → explain_code (stock k n points live) o f p ≡ explain_code (stock k n others live) o f p
  unfolding explain_code first_of
  explain_code_alike f p zero w = refl
  explain_code_alike f p (suc k) w = rw (w.sizes, in_range_alike w n, shelf_alike n live w (omega arith) o)

  pub list_regions_code_alike : (g : Regions) (lists counts : List ℕ) (k : ℕ) {points others : List ℤ} → MembersAlike k (is_live n live) points others
      → list_regions_code (stock k n points live) o g lists counts ≡ list_regions_code (stock k n others live) o g lists counts
  unfolding list_regions_code first_of
  list_regions_code_alike g lists counts zero w = refl
  list_regions_code_alike g lists counts (suc k) w = rw (w.sizes, in_range_alike w n, shelf_alike n live w (omega arith) o)

-- ---- the answers, and what is left
module _ (k n : ℕ) (live : List ℕ) {points others : List ℤ} (w : MembersAlike k (is_live n live) points others) (o : Order) where
  abbrev s : Stock
  s = stock k n points live

  abbrev t : Stock
  t = stock k n others live

  module _ (f : Faces) (list : List ℕ) where
    -- Done, the slots hold live numbers.
    list_slots : list_code t o f list ≡ 0 → (1 ≤ k) × (every (is_live n live) (shelf_run t o) ≡ true)
    list_slots z = let p = list_passed t o f list z in (p.tested.some, shelf_belongs t o p.shelf)

    pub list_answer_alike : list_answer s o f list ≡ list_answer t o f list
    unfolding list_answer
    list_answer_alike = rw (list_code_alike n live o f list k w) (go (list_code t o f list) refl)
      where
        go : (c : ℕ) → list_code t o f list ≡ c
            → if_done c (listing (region k f) (point_of s) (shelf_run s o)) (record { code = c; inside = 0; outside = 0; visits = 0 })
            ≡ if_done c (listing (region k f) (point_of t) (shelf_run t o)) (record { code = c; inside = 0; outside = 0; visits = 0 })
        go zero z = let p = list_slots z in listing_alike n live w p.0 (shelf_run t o) p.1 f
        go (suc c) z = refl

    pub list_after_alike : list_after s o f list ≡ list_after t o f list
    unfolding list_after
    list_after_alike = rw (list_code_alike n live o f list k w) (go (list_code t o f list) refl)
      where
        go : (c : ℕ) → list_code t o f list ≡ c
            → if_done c (places (region k f) (point_of s) (shelf_run s o) ++ drop (slots_of s) list) list
            ≡ if_done c (places (region k f) (point_of t) (shelf_run t o) ++ drop (slots_of t) list) list
        go zero z = let p = list_slots z in ap (λ (xs : List ℕ). xs ++ drop (slots_of t) list) (places_alike n live w p.0 (shelf_run t o) p.1 f)
        go (suc c) z = refl

  module _ (f : Faces) where
    abbrev screened : (c : ℕ) → Stock → Screening
    screened c u = if_done
        c
        (record {
          code = 0;
          found = has_first (insides (region k f) (point_of u) (shelf_run u o));
          number = first (insides (region k f) (point_of u) (shelf_run u o));
          visits = screen_visits (region k f) (point_of u) (shelf_run u o);
        })
        (record { code = c; found = 0; number = 0; visits = 0 })

    pub screen_answer_alike : screen_answer s o f ≡ screen_answer t o f
    unfolding screen_answer screen_visits
    screen_answer_alike = rw (screen_code_alike n live o f k w) (go (screen_code t o f) refl)
      where
        go : (c : ℕ) → screen_code t o f ≡ c → screened c s ≡ screened c t
        go zero z =
            let p = screen_passed t o f z in
            let all = shelf_belongs t o p.shelf in
            rw (
              same_insides (region k f) p.tested.some (is_live n live) (point_of s) (point_of t) (agree n live w) (shelf_run t o) all,
              same_inside_slots (region k f) p.tested.some (is_live n live) (point_of s) (point_of t) (agree n live w) (shelf_run t o) all,
              same_open_slots (region k f) p.tested.some (is_live n live) (point_of s) (point_of t) (agree n live w) (shelf_run t o) all,
            )
        go (suc c) z = refl

  module _ (f : Faces) (p : ℕ) where
    pub explain_answer_alike : explain_answer s o f p ≡ explain_answer t o f p
    unfolding explain_answer
    explain_answer_alike = rw (explain_code_alike n live o f p k w) (go (explain_code t o f p) refl)
      where
        go : (c : ℕ) → explain_code t o f p ≡ c
            → if_done c (explaining (reason_of (region k f) (point_of s) (shelf_run s o) p)) (record { code = c; reason = 0; face = 0; slot = 0; margin = pos 0 })
            ≡ if_done c (explaining (reason_of (region k f) (point_of t) (shelf_run t o) p)) (record { code = c; reason = 0; face = 0; slot = 0; margin = pos 0 })
        go zero z =
            let q = explain_passed t o f p z in
            ap explaining
            (same_reason (region k f) q.screened.tested.some (is_live n live) (point_of s) (point_of t) (agree n live w)
            (shelf_run t o) (shelf_belongs t o q.screened.shelf) p q.belongs)
        go (suc c) z = refl

  module _ (g : Regions) (lists counts : List ℕ) where
    -- Done, the slots hold live numbers.
    regions_slots : list_regions_code t o g lists counts ≡ 0 → (1 ≤ k) × (every (is_live n live) (shelf_run t o) ≡ true)
    regions_slots z = let p = list_regions_passed t o g lists counts z in (p.tested.some, shelf_belongs t o p.shelf)

    pub lists_after_alike : lists_after s o g lists counts ≡ lists_after t o g lists counts
    unfolding lists_after
    lists_after_alike = rw (list_regions_code_alike n live o g lists counts k w) (go (list_regions_code t o g lists counts) refl)
      where
        go : (c : ℕ) → list_regions_code t o g lists counts ≡ c
            → if_done c (end_to_end g.region_count (region_places k g (point_of s) (shelf_run s o)) ++ drop (g.region_count * slots_of s) lists) lists
            ≡ if_done c (end_to_end g.region_count (region_places k g (point_of t) (shelf_run t o)) ++ drop (g.region_count * slots_of t) lists) lists
        go zero z =
            let p = regions_slots z in
            ap (λ (each : ℕ → List ℕ). end_to_end g.region_count each ++ drop (g.region_count * slots_of t) lists)
            (fun_ext (λ r. places_alike n live w p.0 (shelf_run t o) p.1 (faces_of_region k g r)))
        go (suc c) z = refl

    pub counts_after_alike : counts_after s o g lists counts ≡ counts_after t o g lists counts
    unfolding counts_after
    counts_after_alike = rw (list_regions_code_alike n live o g lists counts k w) (go (list_regions_code t o g lists counts) refl)
      where
        go : (c : ℕ) → list_regions_code t o g lists counts ≡ c
            → if_done c (end_to_end g.region_count (region_counts k g (point_of s) (shelf_run s o)) ++ drop (g.region_count * 3) counts) counts
            ≡ if_done c (end_to_end g.region_count (region_counts k g (point_of t) (shelf_run t o)) ++ drop (g.region_count * 3) counts) counts
        go zero z =
            let p = regions_slots z in
            ap (λ (each : ℕ → List ℕ). end_to_end g.region_count each ++ drop (g.region_count * 3) counts)
            (fun_ext (λ r. ap counts_of (listing_alike n live w p.0 (shelf_run t o) p.1 (faces_of_region k g r))))
        go (suc c) z = refl
