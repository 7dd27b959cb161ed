-- The reason read off the branches on the way, one after the other, what each reason says of them, and what a branch and the own test give in each case.
use Rattle.std.specs.Prelude.{◌≡◌, refl, Bool, true, false, ◌⊎◌, ℕ, ◌<◌, length, ℤ}
use Rattle.std.proofs.Common.{inl, inr, arith}
use mathlib.Core.List.{List, [], ◌∷◌}
use borrow.Author.Tests.{eq-eqb, ne_eqb}
use Rattle.terms.specs.declared.Reason.{Reason}
use Rattle.terms.specs.declared.Reason.TheVariants.{InsideWithBranch, InsideByItself, OutsideWithBranch, OutsideByItself}
use Rattle.terms.specs.Tests.{all_to, lowest_to}
use Rattle.terms.specs.Box.{Box}
use Rattle.terms.specs.Region.{Region, above, is_below, wholly_above, wholly_below, is_open}
use Rattle.terms.specs.Margin.{margin}
use Rattle.terms.specs.Branches.{Branch, node_slot, branch_at}
use Rattle.terms.specs.Reason.{Lowest}
use Rattle.terms.specs.Explain.{own_reason, branch_reason}
use Rattle.theory.specs.AllAndAny.{each_all, all_each, all_false, one_all_false}
use Rattle.theory.specs.Boxes.{In}
use Rattle.theory.specs.Nesting.{to_open, of_open}
use Rattle.theory.specs.LowestThatPasses.{lowest_some, lowest_none, none_lowest, lowest_either}

-- The box is wholly above every face.
abbrev pub AboveEvery : Region → Box → Type 0
AboveEvery g b = (e : ℕ) → e < g.h → wholly_above g b e ≡ true

-- Face f is the lowest that the box is wholly below, and m the point's margin to it.
pub record BelowFirst (g : Region) (x : ℕ → ℤ) (f : ℕ) (m : ℤ) (b : Box) : Type 0 where
  pub face : Lowest g.h (wholly_below g b) f
  pub by : m ≡ margin g f x

-- Every branch on the way before place t is open.
abbrev pub OpenBefore : Region → List Branch → ℕ → Type 0
OpenBefore g w t = (u : ℕ) → u < t → is_open g (branch_at w u).box ≡ true

-- A branch on the way with its node in slot s, before which all are open, has a box of which P is so.
pub record NearestOn (g : Region) (w : List Branch) (s : ℕ) (P : Box → Type 0) : Type 0 where
  pub place : ℕ
  pub known : place < length w
  pub named : s ≡ node_slot (branch_at w place)
  pub nearest : OpenBefore g w place
  pub says : P (branch_at w place).box

-- All branches on the way are open, and the slot is the number's own.
pub record OwnOn (g : Region) (w : List Branch) (i s : ℕ) : Type 0 where
  pub own_slot : s ≡ i
  pub every_open : OpenBefore g w (length w)

-- The point is above every face.
abbrev pub InsideTest : Region → (ℕ → ℤ) → Type 0
InsideTest g x = (e : ℕ) → e < g.h → above g e x ≡ true

-- Face f is the lowest that the point is below, and m its margin to it.
pub record OutsideTest (g : Region) (x : ℕ → ℤ) (f : ℕ) (m : ℤ) : Type 0 where
  pub face : Lowest g.h (is_below g x) f
  pub by : m ≡ margin g f x

-- What each reason says of the branches on the way to slot i.
abbrev pub BecauseOn : Region → List Branch → (ℕ → ℤ) → ℕ → Reason → Type 0
BecauseOn g w x i (InsideWithBranch s) = NearestOn g w s (AboveEvery g)
BecauseOn g w x i (InsideByItself s) = OwnOn g w i s × InsideTest g x
BecauseOn g w x i (OutsideWithBranch s f m) = NearestOn g w s (BelowFirst g x f m)
BecauseOn g w x i (OutsideByItself s f m) = OwnOn g w i s × OutsideTest g x f m

-- The reason read off the way, the first branch first.
unfoldable pub reason_on : Region → (ℕ → ℤ) → ℕ → List Branch → Reason
reason_on g x i [] = own_reason g x i
reason_on g x i (b ∷ w) = branch_reason g x b.box (node_slot b) (reason_on g x i w)

-- How a box stands to the faces: wholly below some, wholly above all, or open.
pub data Stands (g : Region) (b : Box) : Type 0 where
  below_one : Lowest g.h (wholly_below g b) (lowest_to g.h (wholly_below g b)) → Stands g b
  above_all : lowest_to g.h (wholly_below g b) ≡ g.h → AboveEvery g b → Stands g b
  opened : is_open g b ≡ true → Stands g b

pub stands : (g : Region) (b : Box) → Stands g b
stands g b = go (lowest_either g.h (wholly_below g b)) (all_to g.h (wholly_above g b)) refl
  where
    go : (lowest_to g.h (wholly_below g b) < g.h) ⊎ (lowest_to g.h (wholly_below g b) ≡ g.h) → (t : Bool) → all_to g.h (wholly_above g b) ≡ t → Stands g b
    go (inl l) t a = below_one (lowest_some g.h (wholly_below g b) l)
    go (inr e) true a = above_all e (all_each g.h (wholly_above g b) a)
    go (inr e) false a = opened (of_open (record { not_below = lowest_none g.h (wholly_below g b) e; not_above = all_false g.h (wholly_above g b) a }))

-- What a branch gives in each case.
module _ (g : Region) (x : ℕ → ℤ) (b : Box) (s : ℕ) (rest : Reason) where
  pub branch_below : lowest_to g.h (wholly_below g b) < g.h
      → branch_reason g x b s rest ≡ OutsideWithBranch s (lowest_to g.h (wholly_below g b)) (margin g (lowest_to g.h (wholly_below g b)) x)
  unfolding branch_reason
  branch_below l = rw (ne_eqb (lowest_to g.h (wholly_below g b)) g.h (λ e. absurd (omega arith)))

  pub branch_above : lowest_to g.h (wholly_below g b) ≡ g.h → AboveEvery g b → branch_reason g x b s rest ≡ InsideWithBranch s
  unfolding branch_reason
  branch_above e all = rw (eq-eqb (lowest_to g.h (wholly_below g b)) g.h e, each_all g.h (wholly_above g b) all)

  pub branch_open : is_open g b ≡ true → branch_reason g x b s rest ≡ rest
  unfolding branch_reason
  branch_open o =
      let w = to_open o in
      rw (
        eq-eqb (lowest_to g.h (wholly_below g b)) g.h (none_lowest g.h (wholly_below g b) w.not_below),
        one_all_false g.h (wholly_above g b) w.not_above,
      )

-- What the own test gives.
module _ (g : Region) (x : ℕ → ℤ) (s : ℕ) where
  pub own_inside : lowest_to g.h (is_below g x) ≡ g.h → own_reason g x s ≡ InsideByItself s
  unfolding own_reason
  own_inside e = rw (eq-eqb (lowest_to g.h (is_below g x)) g.h e)

  pub own_outside : lowest_to g.h (is_below g x) < g.h
      → own_reason g x s ≡ OutsideByItself s (lowest_to g.h (is_below g x)) (margin g (lowest_to g.h (is_below g x)) x)
  unfolding own_reason
  own_outside l = rw (ne_eqb (lowest_to g.h (is_below g x)) g.h (λ e. absurd (omega arith)))

-- The point lies in the box of every branch on the way.
abbrev pub EachHolds : ℕ → (ℕ → ℤ) → List Branch → Type 0
EachHolds k x w = (t : ℕ) → t < length w → In k (branch_at w t).box x
