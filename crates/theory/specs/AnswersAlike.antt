-- What a run's lists, visits and reasons tell, they tell of the points of the numbers that belong alone: where two stocks agree on those, all of them agree.
-- The branch boxes replace one side by a node's coordinate, and the node belongs; the root boxes are alike below dimension k, which is all that a face reads.
use Rattle.std.specs.Prelude.{◌≡◌, Bool, true, not, length, ℤ}
use Rattle.std.proofs.Math.Path.{refl, ap}
use Rattle.std.proofs.Common.{◌∙◌, mod-lt}
use mathlib.Core.List.{List, [], ◌∷◌, map}
use Prim.Native.Nat.{ℕ, zero, suc, ◌+◌, ◌≤◌, ◌<◌}
use Rattle.terms.specs.declared.Reason.{Reason}
use Rattle.terms.specs.Tests.{every, lowest_to}
use Rattle.terms.specs.Run.{middle, axis, node, lefts, rights}
use Rattle.terms.specs.Box.{Box, boxes, root_box}
use Rattle.terms.specs.Region.{Region, is_open, wholly_below}
use Rattle.terms.specs.Lists.{insides, outsides}
use Rattle.terms.specs.Visits.{open_slots}
use Rattle.terms.specs.Screen.{inside_slots}
use Rattle.terms.specs.Explain.{branch_reason, reason_in, reason_of}
use Rattle.theory.specs.Flags.{and_true}
use Rattle.theory.specs.Counting.{every_at}
use Rattle.theory.specs.Keeping.{keep_same}
use Rattle.theory.specs.RunTests.{EveryPart, every_part}
use Rattle.theory.specs.Nesting.{open_alike}
use Rattle.theory.specs.BoxesAlike.{tests_alike}
use Rattle.theory.specs.PointsAlike.{SamePoint, inside_same_point}
use Rattle.theory.specs.Margins.{margin_same_point}
use Rattle.theory.specs.ReasonSteps.{own_same_point, reason_alike}
use Rattle.theory.specs.PointsThatBelong.{same_before, same_root}

branch_same_point : (g : Region) {x y : ℕ → ℤ} → SamePoint g.k x y → (b : Box) (s : ℕ) (rest : Reason) → branch_reason g x b s rest ≡ branch_reason g y b s rest
unfolding branch_reason
branch_same_point g e b s rest = rw (margin_same_point g e (lowest_to g.h (wholly_below g b)))

module _ (g : Region) (some : 1 ≤ g.k) (belongs : ℕ → Bool) (at other : ℕ → ℕ → ℤ)
    (same : (p d : ℕ) → belongs p ≡ true → d < g.k → at p d ≡ other p d) where
  point : (p : ℕ) → belongs p ≡ true → SamePoint g.k (at p) (other p)
  point p e = record { same = λ d l. same p d e l }

  -- The branch boxes of one box.
  boxes_same : (f j : ℕ) (run : List ℕ) → every belongs run ≡ true → (b : Box) → boxes f g.k at j run b ≡ boxes f g.k other j run b
  unfolding boxes
  boxes_same zero j run e b = refl
  boxes_same (suc f) j [] e b = refl
  boxes_same (suc f) j (x ∷ xs) e b =
      let w : EveryPart belongs (x ∷ xs) = every_part belongs x xs e in
      rw (
        same (node (x ∷ xs)) (axis g.k j) w.middle (mod-lt j some),
        boxes_same f (suc j) (lefts (x ∷ xs)) w.left _,
        boxes_same f (suc j) (rights (x ∷ xs)) w.right _,
      )

  -- The reason on the way down, in one box.
  reason_same : (f : ℕ) (p : ℕ) → belongs p ≡ true → (a j : ℕ) (run : List ℕ) → every belongs run ≡ true → (b : Box)
      → reason_in f g at p a j run b ≡ reason_in f g other p a j run b
  unfolding reason_in
  reason_same zero p h a j run e b = refl
  reason_same (suc f) p h a j [] e b = refl
  reason_same (suc f) p h a j (x ∷ xs) e b =
      let w : EveryPart belongs (x ∷ xs) = every_part belongs x xs e in
      let v : ℕ = node (x ∷ xs) in
      rw (
        same v (axis g.k j) w.middle (mod-lt j some),
        same_before g.k some belongs at other same j p v h w.middle,
        own_same_point g (point p h) (a + middle (length (x ∷ xs))),
        reason_same f p h a (suc j) (lefts (x ∷ xs)) w.left _,
        reason_same f p h (a + (middle (length (x ∷ xs)) + 1)) (suc j) (rights (x ∷ xs)) w.right _,
      )
      (branch_same_point g (point p h) b _ _)

  module _ (run : List ℕ) (all : every belongs run ≡ true) where
    pub same_insides : insides g at run ≡ insides g other run
    same_insides = keep_same 0 _ _ run (λ i l. inside_same_point g (point _ (every_at belongs 0 run all i l)))

    pub same_outsides : outsides g at run ≡ outsides g other run
    same_outsides = keep_same 0 _ _ run (λ i l. ap not (inside_same_point g (point _ (every_at belongs 0 run all i l))))

    pub same_open_slots : open_slots g at run ≡ open_slots g other run
    unfolding open_slots
    same_open_slots =
        ap (map (is_open g)) (boxes_same (length run) 0 run all (root_box at run))
        ∙ tests_alike g.k other (is_open g) (λ b c. open_alike g) (length run) 0 run (same_root g.k some belongs at other same run all)

    pub same_reason : (p : ℕ) → belongs p ≡ true → reason_of g at run p ≡ reason_of g other run p
    unfolding reason_of
    same_reason p h =
        reason_same (length run) p h 0 0 run all (root_box at run)
        ∙ reason_alike (length run) g other p 0 0 run (same_root g.k some belongs at other same run all)

  pub same_inside_slots : (run : List ℕ) → every belongs run ≡ true → inside_slots g at run ≡ inside_slots g other run
  unfolding inside_slots every
  same_inside_slots [] e = refl
  same_inside_slots (p ∷ run) e = let w = and_true (belongs p) e in rw (inside_same_point g (point p w.0), same_inside_slots run w.1)
