-- Tight boxes, and so the summary and the visits by them, tell of the points of the numbers in the slots alone: where two stocks agree on the numbers that
-- belong, each slot's tight boxes are alike below dimension k, which is all that a face reads and all that the summary has.
use Rattle.std.specs.Prelude.{◌≡◌, refl, Bool, true, length, ℤ}
use mathlib.Core.List.{List, [], ◌∷◌, map}
use Prim.Native.Nat.{ℕ, zero, suc, ◌≤◌, ◌<◌}
use Rattle.terms.specs.Tests.{every}
use Rattle.terms.specs.Run.{lefts, rights}
use Rattle.terms.specs.Box.{Box}
use Rattle.terms.specs.TightBox.{tight_boxes}
use Rattle.terms.specs.Summary.{corners_of, summary}
use Rattle.terms.specs.Region.{Region, is_open}
use Rattle.terms.specs.Visits.{tight_open_slots, tight_visits}
use Rattle.theory.specs.RunTests.{EveryPart, every_part}
use Rattle.theory.specs.Boxes.{Alike}
use Rattle.theory.specs.Nesting.{open_alike}
use Rattle.theory.specs.PointsThatBelong.{same_root}
use Rattle.theory.specs.SlotBySlot.{SlotBySlot, no_more, one_more, slots_append}
use Rattle.theory.specs.Summary.{corners_alike}

-- Lists of boxes with the same corners have the same numbers, and are open in the same slots.
corners_all_alike : {k : ℕ} {bs cs : List Box} → SlotBySlot (Alike k) bs cs → corners_of k bs ≡ corners_of k cs
unfolding corners_of
corners_all_alike no_more = refl
corners_all_alike (one_more n p) = rw (corners_alike n, corners_all_alike p)

open_all_alike : (g : Region) {bs cs : List Box} → SlotBySlot (Alike g.k) bs cs → map (is_open g) bs ≡ map (is_open g) cs
open_all_alike g no_more = refl
open_all_alike g (one_more n p) = rw (open_alike g n, open_all_alike g p)

module _ (k : ℕ) (some : 1 ≤ k) (belongs : ℕ → Bool) (at other : ℕ → ℕ → ℤ) (same : (p d : ℕ) → belongs p ≡ true → d < k → at p d ≡ other p d) where
  tights_alike : (f : ℕ) (run : List ℕ) → every belongs run ≡ true → SlotBySlot (Alike k) (tight_boxes f at run) (tight_boxes f other run)
  unfolding tight_boxes
  tights_alike zero run e = no_more
  tights_alike (suc f) [] e = no_more
  tights_alike (suc f) (x ∷ xs) e =
      let w : EveryPart belongs (x ∷ xs) = every_part belongs x xs e in
      slots_append (tights_alike f (lefts (x ∷ xs)) w.left)
      (one_more (same_root k some belongs at other same (x ∷ xs) e) (tights_alike f (rights (x ∷ xs)) w.right))

  pub same_summary : (run : List ℕ) → every belongs run ≡ true → summary k at run ≡ summary k other run
  same_summary run e = corners_all_alike (tights_alike (length run) run e)

-- The same of a region's open slots and visits.
module _ (g : Region) (some : 1 ≤ g.k) (belongs : ℕ → Bool) (at other : ℕ → ℕ → ℤ) (same : (p d : ℕ) → belongs p ≡ true → d < g.k → at p d ≡ other p d)
    (run : List ℕ) (all : every belongs run ≡ true) where
  pub same_tight_open_slots : tight_open_slots g at run ≡ tight_open_slots g other run
  unfolding tight_open_slots
  same_tight_open_slots = open_all_alike g (tights_alike g.k some belongs at other same (length run) run all)

  pub same_tight_visits : tight_visits g at run ≡ tight_visits g other run
  unfolding tight_visits
  same_tight_visits = rw same_tight_open_slots
