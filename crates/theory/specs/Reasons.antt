-- What a reason says: inside or outside, by its own test or with a branch, which slot and face it names, and of the point that it is below that face.
use Rattle.std.specs.Prelude.{◌≡◌, Bool, true, false, ℕ, ◌<◌, ℤ}
use Rattle.terms.specs.declared.Reason.{Reason}
use Rattle.terms.specs.declared.Reason.TheVariants.{InsideWithBranch, InsideByItself, OutsideWithBranch, OutsideByItself}
use Rattle.terms.specs.Region.{Region, is_below}
use Rattle.terms.specs.Margin.{margin}

-- The reason is one of the two for inside.
abbrev pub says_inside : Reason → Bool
says_inside (InsideWithBranch s) = true
says_inside (InsideByItself s) = true
says_inside (OutsideWithBranch s f m) = false
says_inside (OutsideByItself s f m) = false

-- The reason is one of the two by the number's own test.
abbrev pub says_itself : Reason → Bool
says_itself (InsideWithBranch s) = false
says_itself (InsideByItself s) = true
says_itself (OutsideWithBranch s f m) = false
says_itself (OutsideByItself s f m) = true

-- Its slot is one of n, and where it names a face that is one of h.
abbrev pub Named : ℕ → ℕ → Reason → Type 0
Named n h (InsideWithBranch s) = s < n
Named n h (InsideByItself s) = s < n
Named n h (OutsideWithBranch s f m) = (s < n) × (f < h)
Named n h (OutsideByItself s f m) = (s < n) × (f < h)

-- What it says of a point: where it names a face, that the point is below it, by the margin that it gives.
abbrev pub SaidOf : Region → (ℕ → ℤ) → Reason → Type 0
SaidOf g x (InsideWithBranch s) = Unit {0}
SaidOf g x (InsideByItself s) = Unit {0}
SaidOf g x (OutsideWithBranch s f m) = (is_below g x f ≡ true) × (m ≡ margin g f x)
SaidOf g x (OutsideByItself s f m) = (is_below g x f ≡ true) × (m ≡ margin g f x)
