-- One region of a shelf: what the walk leaves in its places and what is written of its counts.
use Rattle.std.specs.Prelude.{◌≡◌, refl, List, [], ◌∷◌, ℕ, ◌-◌, length, ℤ}
use Rattle.terms.specs.Region.{Region}
use Rattle.terms.specs.Lists.{places}
use Rattle.terms.specs.ListCall.{listing}
use Rattle.terms.specs.ThreeCounts.{counts_of}
use Rattle.walk.specs.Shelf.{ShelfWalked}

-- The region's places hold its two lists, and its counts are inside, outside and visits.
pub record RegionListed (g : Region) (at : ℕ → ℕ → ℤ) (run list counts : List ℕ) : Type 0 where
  pub listed : list ≡ places g at run
  pub counted : counts ≡ counts_of (listing g at run)

-- The walk of a shelf, with its three counts.
pub region_listed : {g : Region} {at : ℕ → ℕ → ℤ} {run list : List ℕ} {i u : ℕ} → ShelfWalked g at run list i u → RegionListed g at run list (i ∷ (length run - i) ∷ u ∷ [])
region_listed w = record { listed = w.listed.list; counted = rw (w.listed.outside, w.listed.inside, w.visited) refl }
