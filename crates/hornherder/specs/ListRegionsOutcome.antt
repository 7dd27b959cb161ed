-- What the call that lists several regions gives, put together: where its first refusal is not 0, the refusal; where it is 0, what the walk of each region counts and
-- writes.
use Rattle.std.specs.Prelude.{◌≡◌, ◌≢◌, List, ℕ, length}
use Rattle.std.proofs.Math.Path.{sym}
use Rattle.std.proofs.Common.{◌∙◌}
use Rattle.terms.specs.Lent.{Stock, Order, Regions}
use Rattle.terms.specs.Points.{point_of, slots_of}
use Rattle.terms.specs.Tree.{shelf_run}
use Rattle.terms.specs.ListRegionsCall.{list_regions_refusals, list_regions_code, lists_after, counts_after, RegionsListedAs}
use Rattle.theory.specs.ListRegionsCall.{RegionsPassed, list_regions_passed, list_regions_refused}
use Rattle.regions_walk.specs.RegionsListed.{RegionsListed}
use Rattle.hornherder.specs.First.{First}

module _ (s : Stock) (o : Order) (g : Regions) (lists counts : List ℕ) {c : ℕ} (first : First (list_regions_refusals s o g lists counts) c) where
  regions_coded : c ≡ list_regions_code s o g lists counts
  unfolding list_regions_code
  regions_coded = first.is

  -- What 1, 2, 3, 15, 14, 4 to 8, 11 and 9 have tested.
  pub regions_passed : c ≡ 0 → RegionsPassed s o g lists counts
  regions_passed z = list_regions_passed s o g lists counts (sym regions_coded ∙ z)

  pub regions_refused : c ≢ 0 → RegionsListedAs s o g lists counts c lists counts
  regions_refused m =
      let w = list_regions_refused s o g lists counts (λ z. m (regions_coded ∙ z)) in
      record { answered = regions_coded; listed = sym w.0; counted = sym w.1 }

  pub regions_done : c ≡ 0 → length (shelf_run s o) ≡ slots_of s → {after_lists after_counts : List ℕ}
      → RegionsListed s.k g (point_of s) (shelf_run s o) lists counts g.region_count after_lists after_counts
      → RegionsListedAs s o g lists counts 0 after_lists after_counts
  unfolding lists_after counts_after
  regions_done z slots w = record {
    answered = sym z ∙ regions_coded;
    listed = rw (← regions_coded, z) (rw slots at w.listed.filled);
    counted = rw (← regions_coded, z) w.counted.filled;
  }
