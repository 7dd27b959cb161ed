-- The computed reason, a step at a time: what it is at a run that is not empty, that the depth counts only by the dimension of the split, that boxes with the same
-- corners give the same, and in which branch of an open run a number stands.
use Rattle.std.specs.Prelude.{◌≡◌, true, false, cond, not, ◌⊎◌, ◌≢◌, length, ℤ, eqb}
use Rattle.std.proofs.Math.Path.{refl}
use Rattle.std.proofs.Common.{sym, ap, ◌∙◌, inl, inr, ⊎_elim, not-suc-le-zero, zero-add, arith}
use mathlib.Core.List.{List, [], ◌∷◌}
use Prim.Native.Nat.{ℕ, zero, suc, ◌+◌, ◌-◌, ◌%◌, ◌<◌}
use Rattle.std.proofs.Math.Nat.{suc-mod}
use Rattle.terms.specs.declared.Reason.{Reason}
use Rattle.terms.specs.declared.Reason.TheVariants.{InsideWithBranch}
use Rattle.terms.specs.Tests.{lowest_to}
use Rattle.terms.specs.Before.{before}
use Rattle.terms.specs.Run.{middle, axis, node, lefts, rights}
use Rattle.terms.specs.Tree.{tree_run}
use Rattle.terms.specs.Box.{Box, left_box, right_box, root_box}
use Rattle.terms.specs.Region.{Region, wholly_above, wholly_below, is_below}
use Rattle.terms.specs.Reason.{InRun}
use Rattle.terms.specs.Explain.{own_reason, branch_reason, reason_in, reason_of}
use Rattle.theory.specs.Flags.{clash}
use Rattle.theory.specs.AllAndAny.{all_same}
use Rattle.theory.specs.Boxes.{Alike}
use Rattle.theory.specs.BoxLaws.{left_alike, right_alike}
use Rattle.theory.specs.Nesting.{above_alike, below_alike}
use Rattle.theory.specs.RunParts.{Parts, parts}
use Rattle.theory.specs.RunSides.{Side, side, at_node, on_left, on_right}
use Rattle.theory.specs.BeforeIsAnOrder.{before_asym}
use Rattle.theory.specs.PointsAlike.{SamePoint, above_same_point}
use Rattle.theory.specs.Margins.{margin_same_point}
use Rattle.theory.specs.LowestThatPasses.{lowest_same, none_lowest}
use Rattle.theory.specs.ReasonOnTheWay.{branch_above}

-- What follows at an open run whose node q stands in slot s: the own test of q's number, or the branch on the side of p. The left branch starts at slot a, the
-- right one at slot after.
abbrev pub open_reason : ℕ → Region → (ℕ → ℕ → ℤ) → ℕ → ℕ → ℕ → ℕ → List ℕ → ℕ → List ℕ → ℕ → Box → Reason
open_reason f g at p s j a left after right q b =
    cond
    (eqb p q)
    (own_reason g (at p) s)
    (cond
    (before at (axis g.k j) p q)
    (reason_in f g at p a (suc j) left (left_box b (axis g.k j) (at q (axis g.k j))))
    (reason_in f g at p after (suc j) right (right_box b (axis g.k j) (at q (axis g.k j)))))

pub reason_step : (f : ℕ) (g : Region) (at : ℕ → ℕ → ℤ) (p a j : ℕ) (run : List ℕ) (b : Box) → 0 < length run
    → reason_in (suc f) g at p a j run b
    ≡ branch_reason g (at p) b (a + middle (length run))
    (open_reason f g at p (a + middle (length run)) j a (lefts run) (a + (middle (length run) + 1)) (rights run) (node run) b)
unfolding reason_in
reason_step f g at p a j [] b some = absurd (not-suc-le-zero some)
reason_step f g at p a j (x ∷ xs) b some = refl

-- "With no faces" the root is wholly above all of them, and its node stands in the middle.
pub reason_no_faces : (g : Region) (at : ℕ → ℕ → ℤ) (run : List ℕ) (p : ℕ) → g.h ≡ 0 → 0 < length run → reason_of g at run p ≡ InsideWithBranch (middle (length run))
unfolding reason_of
reason_no_faces g at [] p none some = absurd (not-suc-le-zero some)
reason_no_faces g at (x ∷ xs) p none some =
    let root : Box = root_box at (x ∷ xs) in
    reason_step (length xs) g at p 0 0 (x ∷ xs) root some
    ∙ branch_above g (at p) root _ _ (none_lowest g.h (wholly_below g root) (λ i l. absurd (omega arith))) (λ e l. absurd (omega arith))
    ∙ ap InsideWithBranch (zero-add (middle (length (x ∷ xs))))

pub reason_depth : (f : ℕ) (g : Region) (at : ℕ → ℕ → ℤ) (p a i j : ℕ) (run : List ℕ) (b : Box) → axis g.k i ≡ axis g.k j
    → reason_in f g at p a i run b ≡ reason_in f g at p a j run b
unfolding reason_in
reason_depth zero g at p a i j run b e = refl
reason_depth (suc f) g at p a i j [] b e = refl
reason_depth (suc f) g at p a i j (x ∷ xs) b e =
    let n : axis g.k (suc i) ≡ axis g.k (suc j) = suc-mod i g.k ∙ ap (λ (d : ℕ). suc d % g.k) e ∙ sym (suc-mod j g.k) in
    rw (e, reason_depth f g at p a (suc i) (suc j) (lefts (x ∷ xs)) _ n, reason_depth f g at p _ (suc i) (suc j) (rights (x ∷ xs)) _ n)

-- Two points with the same first k coordinates have the same reason by their own test.
pub own_same_point : (g : Region) {x y : ℕ → ℤ} → SamePoint g.k x y → (s : ℕ) → own_reason g x s ≡ own_reason g y s
unfolding own_reason
own_same_point g {x} {y} e s = rw (
  lowest_same g.h (is_below g x) (is_below g y) (λ i l. ap not (above_same_point g e i)),
  margin_same_point g e (lowest_to g.h (is_below g y)),
)

branch_alike : (g : Region) (x : ℕ → ℤ) {b c : Box} (s : ℕ) (rest : Reason) → Alike g.k b c → branch_reason g x b s rest ≡ branch_reason g x c s rest
unfolding branch_reason
branch_alike g x {b} {c} s rest w = rw (
  lowest_same g.h (wholly_below g b) (wholly_below g c) (λ i l. below_alike g w i),
  all_same g.h (wholly_above g b) (wholly_above g c) (λ i l. above_alike g w i),
)

pub reason_alike : (f : ℕ) (g : Region) (at : ℕ → ℕ → ℤ) (p a j : ℕ) (run : List ℕ) {b c : Box} → Alike g.k b c
    → reason_in f g at p a j run b ≡ reason_in f g at p a j run c
unfolding reason_in
reason_alike zero g at p a j run w = refl
reason_alike (suc f) g at p a j [] w = refl
reason_alike (suc f) g at p a j (x ∷ xs) {b} {c} w =
    let run : List ℕ = x ∷ xs in
    let s : ℕ = axis g.k j in
    let z : ℤ = at (node run) s in
    rw (
      reason_alike f g at p a (suc j) (lefts run) (left_alike w s z),
      reason_alike f g at p (a + (middle (length run) + 1)) (suc j) (rights run) (right_alike w s z),
    )
    (branch_alike g (at p) (a + middle (length run)) _ w)

-- Of a number that is not the node's, the comparison with the node tells in which branch it stands.
module _ (k : ℕ) (at : ℕ → ℕ → ℤ) (j p : ℕ) where
  abbrev Sided : List ℕ → Type 0
  Sided run =
      ((before at (axis k j) p (node run) ≡ true) × InRun (lefts run) p) ⊎ ((before at (axis k j) p (node run) ≡ false) × InRun (rights run) p)

  sided : (f : ℕ) (run : List ℕ) → Parts f k at j run → (i : ℕ) → Side run i p → p ≢ node run → Sided run
  sided f run w i (at_node q z) n = absurd (n z)
  sided f run w i (on_left q u z) n = inl (rw z at (w.before_node i u), (i, record { known = u; number = z }))
  sided f run w i (on_right q u z) n = inr (
    before_asym at (axis k j) (node run) p (rw z at (w.after_node (i - (middle (length run) + 1)) u)),
    (i - (middle (length run) + 1), record { known = u; number = z }),
  )

  sides : (f : ℕ) (run : List ℕ) → tree_run f k at j run ≡ true → InRun run p → p ≢ node run → Sided run
  unfolding tree_run
  sides f [] t (i, s) n = absurd (not-suc-le-zero s.known)
  sides zero (x ∷ xs) t (i, s) n = clash t refl
  sides (suc f) (x ∷ xs) t (i, s) n = sided f (x ∷ xs) (parts x xs t) i (side (x ∷ xs) i p s.known s.number) n

  pub stands_left : (f : ℕ) (run : List ℕ) → tree_run f k at j run ≡ true → InRun run p → p ≢ node run → before at (axis k j) p (node run) ≡ true → InRun (lefts run) p
  stands_left f run t s n e = ⊎_elim (λ z. z.1) (λ z. clash e z.0) (sides f run t s n)

  pub stands_right : (f : ℕ) (run : List ℕ) → tree_run f k at j run ≡ true → InRun run p → p ≢ node run → before at (axis k j) p (node run) ≡ false → InRun (rights run) p
  stands_right f run t s n e = ⊎_elim (λ z. clash z.0 e) (λ z. z.1) (sides f run t s n)
