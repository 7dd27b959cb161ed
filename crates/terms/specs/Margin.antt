-- By how much a point is above a face or below it, and the least of this over the faces.
use Rattle.std.specs.Prelude.{ℕ, zero, suc, ℤ, pos, ◌-ℤ◌}
use Rattle.std.specs.Int.Signed.{le_z}
use Rattle.terms.specs.Tests.{keep, rising}
use Rattle.terms.specs.Box.{least_from}
use Rattle.terms.specs.Screen.{first}
use Rattle.terms.specs.Region.{Region, reach}

-- The margin of a point to face i: the sum of products less the offset.
abbrev pub margin : Region → ℕ → (ℕ → ℤ) → ℤ
margin g i x = reach g i x -ℤ g.offset i

-- The least of the values of 0 to h - 1; 0 where there are none.
unfoldable pub least_to : ℕ → (ℕ → ℤ) → ℤ
least_to zero value = pos 0
least_to (suc h) value = least_from value (value 0) (rising 1 h)

-- The lowest of 0 to h - 1 that has the least value; 0 where there are none.
unfoldable pub lowest_least : ℕ → (ℕ → ℤ) → ℕ
lowest_least h value = first (keep (λ i. le_z (value i) (least_to h value)) (rising 0 h))

-- The least margin of a point over the faces; 0 where there are none.
abbrev pub least_margin : Region → (ℕ → ℤ) → ℤ
least_margin g x = least_to g.h (λ i. margin g i x)

-- The lowest-numbered face that has it; 0 where there are none.
abbrev pub least_face : Region → (ℕ → ℤ) → ℕ
least_face g x = lowest_least g.h (λ i. margin g i x)
