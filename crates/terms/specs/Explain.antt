-- The reason of a number, found on one way down from the root: each branch's box is asked, then the node, then the branch on the number's side.
use Rattle.std.specs.Prelude.{cond, List, [], ◌∷◌, ℕ, zero, suc, ◌+◌, length, ℤ, eqb}
use Rattle.terms.specs.declared.Reason.{Reason}
use Rattle.terms.specs.declared.Reason.TheVariants.{InsideWithBranch, InsideByItself, OutsideWithBranch, OutsideByItself}
use Rattle.terms.specs.Tests.{all_to, lowest_to}
use Rattle.terms.specs.Before.{before}
use Rattle.terms.specs.Run.{middle, axis, node, lefts, rights}
use Rattle.terms.specs.Box.{Box, left_box, right_box, root_box}
use Rattle.terms.specs.Region.{Region, is_below, wholly_above, wholly_below}
use Rattle.terms.specs.Margin.{margin}

-- What a point's own test gives in slot s.
unfoldable pub own_reason : Region → (ℕ → ℤ) → ℕ → Reason
own_reason g x s =
    let f : ℕ = lowest_to g.h (is_below g x) in
    cond (eqb f g.h) (InsideByItself s) (OutsideByItself s f (margin g f x))

-- What a branch with its node in slot s and box b gives for a point that it holds: its reason where it is settled, and the rest where it is open.
unfoldable pub branch_reason : Region → (ℕ → ℤ) → Box → ℕ → Reason → Reason
branch_reason g x b s rest =
    let f : ℕ = lowest_to g.h (wholly_below g b) in
    cond (eqb f g.h) (cond (all_to g.h (wholly_above g b)) (InsideWithBranch s) rest) (OutsideWithBranch s f (margin g f x))

-- The reason of number p in a run from slot a on, at depth j and with box b. The run's length is enough for the first number; a number of a run that
-- is a tree never meets an empty one.
unfoldable pub reason_in : ℕ → Region → (ℕ → ℕ → ℤ) → ℕ → ℕ → ℕ → List ℕ → Box → Reason
reason_in zero g at p a j run b = InsideByItself 0
reason_in (suc f) g at p a j [] b = InsideByItself 0
reason_in (suc f) g at p a j (x ∷ xs) b =
    let run : List ℕ = x ∷ xs in
    let m : ℕ = middle (length run) in
    let s : ℕ = axis g.k j in
    let z : ℤ = at (node run) s in
    branch_reason g (at p) b (a + m)
    (cond
    (eqb p (node run))
    (own_reason g (at p) (a + m))
    (cond
    (before at s p (node run))
    (reason_in f g at p a (suc j) (lefts run) (left_box b s z))
    (reason_in f g at p (a + (m + 1)) (suc j) (rights run) (right_box b s z))))

-- The reason of number p of a shelf.
unfoldable pub reason_of : Region → (ℕ → ℕ → ℤ) → List ℕ → ℕ → Reason
reason_of g at run p = reason_in (length run) g at p 0 0 run (root_box at run)
