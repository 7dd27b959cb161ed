-- The two lists of a run against a region, and the places of the list buffer.
use Rattle.std.specs.Prelude.{not, List, ◌++◌, reverse, ℕ, ℤ}
use Rattle.terms.specs.Tests.{keep}
use Rattle.terms.specs.Region.{Region, inside}

-- The numbers of a run that are inside, in slot order.
abbrev pub insides : Region → (ℕ → ℕ → ℤ) → List ℕ → List ℕ
insides g at run = keep (λ p. inside g (at p)) run

-- The numbers of a run that are outside, in slot order.
abbrev pub outsides : Region → (ℕ → ℕ → ℤ) → List ℕ → List ℕ
outsides g at run = keep (λ p. not (inside g (at p))) run

-- The list buffer's places: inside from the front, outside backwards from the last place.
abbrev pub places : Region → (ℕ → ℕ → ℤ) → List ℕ → List ℕ
places g at run = insides g at run ++ reverse (outsides g at run)
