-- The visits: how many slots of the shelf have a branch that is open, by its branch box or by its tight box.
use Rattle.std.specs.Prelude.{Bool, List, map, ℕ, ℤ}
use Rattle.terms.specs.Tests.{count}
use Rattle.terms.specs.Box.{Box, shelf_boxes}
use Rattle.terms.specs.TightBox.{shelf_tight_boxes}
use Rattle.terms.specs.Region.{Region, is_open}

-- For every slot, in slot order, whether it is open, its branch having the box in its place of the list.
abbrev pub open_by : Region → List Box → List Bool
open_by g slot_boxes = map (is_open g) slot_boxes

-- How many slots are open.
abbrev pub how_many : List Bool → ℕ
how_many open-slots = count (λ t. t) open-slots

-- For every slot whether it is open by its branch box.
unfoldable pub open_slots : Region → (ℕ → ℕ → ℤ) → List ℕ → List Bool
open_slots g at run = open_by g (shelf_boxes g.k at run)

-- The visits of the walk by branch boxes.
unfoldable pub visits : Region → (ℕ → ℕ → ℤ) → List ℕ → ℕ
visits g at run = how_many (open_slots g at run)

-- For every slot whether it is open by its tight box.
unfoldable pub tight_open_slots : Region → (ℕ → ℕ → ℤ) → List ℕ → List Bool
tight_open_slots g at run = open_by g (shelf_tight_boxes at run)

-- The visits of the walk by tight boxes.
unfoldable pub tight_visits : Region → (ℕ → ℕ → ℤ) → List ℕ → ℕ
tight_visits g at run = how_many (tight_open_slots g at run)
