-- The screen of a run against a region: the inside number in the lowest slot, and the visits up to that slot.
use Rattle.std.specs.Prelude.{Bool, true, false, List, [], ◌∷◌, map, ℕ, suc, take, ℤ}
use Rattle.terms.specs.Tests.{count}
use Rattle.terms.specs.Region.{Region, inside}
use Rattle.terms.specs.Visits.{open_slots}

-- 1 where a list of numbers has an entry, 0 where it has none.
abbrev pub has_first : List ℕ → ℕ
has_first [] = 0
has_first (p ∷ ps) = 1

-- Its first entry, 0 where it has none.
abbrev pub first : List ℕ → ℕ
first [] = 0
first (p ∷ ps) = p

-- For every slot, in slot order, whether its own number is inside.
unfoldable pub inside_slots : Region → (ℕ → ℕ → ℤ) → List ℕ → List Bool
inside_slots g at run = map (λ p. inside g (at p)) run

-- How many slots there are up to and including the first that is inside; all of them where none is.
unfoldable pub up_to_first : List Bool → ℕ
up_to_first [] = 0
up_to_first (true ∷ ts) = 1
up_to_first (false ∷ ts) = suc (up_to_first ts)

-- How many of those slots are open.
unfoldable pub screen_visits : Region → (ℕ → ℕ → ℤ) → List ℕ → ℕ
screen_visits g at run = count (λ t. t) (take (up_to_first (inside_slots g at run)) (open_slots g at run))
