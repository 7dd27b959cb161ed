-- The lowest-numbered face that a point is below, where there is one.
use Rattle.std.specs.Prelude.{◌≡◌, false, Option, Some, None, unwrap_or, ℕ, ◌<◌, ℤ}
use Rattle.std.proofs.Common.{sym}
use Rattle.terms.specs.Tests.{lowest_to}
use Rattle.terms.specs.Reason.{Lowest}
use Rattle.terms.specs.Region.{Region, is_below}
use Rattle.theory.specs.LowestThatPasses.{lowest_is, none_lowest}

-- The face is the lowest that the point is below; with no answer it is below none.
abbrev pub LowestFace : Region → (ℕ → ℤ) → Option ℕ → Type 0
LowestFace g x None = (i : ℕ) → i < g.h → is_below g x i ≡ false
LowestFace g x (Some f) = Lowest g.h (is_below g x) f

-- The answer is the word's, which says h where there is none.
pub lowest_face_is : (g : Region) (x : ℕ → ℤ) (answer : Option ℕ) → LowestFace g x answer → unwrap_or answer g.h ≡ lowest_to g.h (is_below g x)
lowest_face_is g x None none = sym (none_lowest g.h (is_below g x) none)
lowest_face_is g x (Some f) w = lowest_is g.h (is_below g x) w
