-- What a walk does with a run of slots: the run's numbers go to the two lists, and each open one of the boxes of its slots is one visit.
-- A settled branch is one run copied and no visit; an open one is its left branch, its own number and its right branch, one after the other.
use Rattle.std.specs.Prelude.{◌≡◌, true, List, [], ◌∷◌, ◌++◌, ℕ, ◌+◌, ◌-◌, ◌≤◌, ◌<◌, length, ℤ}
use Rattle.std.proofs.Common.{ap, arith}
use Rattle.std.proofs.Math.Seq.{paste}
use Rattle.terms.specs.Tests.{bit, count}
use Rattle.terms.specs.Box.{Box}
use Rattle.terms.specs.Region.{Region, inside, wholly_above, wholly_below, is_open}
use Rattle.theory.specs.AllAndAny.{OneBelow}
use Rattle.theory.specs.Counting.{count_append, count_not}
use Rattle.theory.specs.Boxes.{Held}
use Rattle.theory.specs.Containment.{above_all_insides, above_all_outsides, below_one_insides, below_one_outsides}
use Rattle.list_buffer.specs.Filled.{Placed, paste_back}
use Rattle.list_buffer.specs.Listed.{Listed, listed_none, listed_inside, listed_outside, listed_around}

-- The walk of a run whose slots have these boxes, after d slots: from i numbers inside and u visits to j and v.
pub record Walked (g : Region) (at : ℕ → ℕ → ℤ) (run : List ℕ) (slot_boxes : List Box) (list after : List ℕ) (d i u j v : ℕ) : Type 0 where
  pub listed : Listed (λ p. inside g (at p)) run list after d i j
  pub visits : v ≡ u + count (is_open g) slot_boxes

-- At most as many nodes are visited as there are slots.
pub walked_most : {g : Region} {at : ℕ → ℕ → ℤ} {run : List ℕ} {slot_boxes : List Box} {list after : List ℕ} {d i u j v c : ℕ}
    → Walked g at run slot_boxes list after d i u j v → length slot_boxes ≡ c → v ≤ u + c
walked_most {g} {slot_boxes = slot_boxes} w e = omega (arith, w.visits, count_not (is_open g) slot_boxes)

-- An empty run.
pub walked_none : (g : Region) (at : ℕ → ℕ → ℤ) (list : List ℕ) (d i u : ℕ) → Walked g at [] [] list list d i u i u
unfolding count
walked_none g at list d i u = record { listed = listed_none _ list d i; visits = omega arith }

-- A settled branch whose points lie in box b and of whose slots none is open: its run as a copier writes it, one way or the other.
module _ {g : Region} {at : ℕ → ℕ → ℤ} {run : List ℕ} {slot_boxes : List Box} {list after : List ℕ} {d i : ℕ} {b : Box} (u : ℕ) (few : i ≤ d)
    (room : d + length run ≤ length list) (held : Held g.k at b run) (none : count (is_open g) slot_boxes ≡ 0) where
  pub walked_inside : ((f : ℕ) → f < g.h → wholly_above g b f ≡ true) → after ≡ paste list i run (length run)
      → Walked g at run slot_boxes list after d i u (i + length run) u
  walked_inside above e = record {
    listed = listed_inside few room (above_all_insides g held above) (above_all_outsides g held above) e;
    visits = omega arith;
  }

  pub walked_outside : OneBelow g.h (wholly_below g b) true → after ≡ paste_back list (length list - (d - i)) run (length run)
      → Walked g at run slot_boxes list after d i u i u
  walked_outside below e = record {
    listed = listed_outside few room (below_one_insides g held below) (below_one_outsides g held below) e;
    visits = omega arith;
  }

-- An open branch in box b: its own visit, its left branch of c slots, its own number, its right branch.
pub walked_open : {g : Region} {at : ℕ → ℕ → ℤ} {left right : List ℕ} {p : ℕ} {lefts rights : List Box} (b : Box) {list first next last : List ℕ}
    {d i u i₁ u₁ i₂ i₃ u₃ c : ℕ} → is_open g b ≡ true → length left ≡ c
    → Walked g at left lefts list first d i (u + 1) i₁ u₁
    → Placed first next p (inside g (at p)) (d + c) i₁ i₂
    → Walked g at right rights next last (d + c + 1) i₂ u₁ i₃ u₃
    → Walked g at (left ++ p ∷ right) (lefts ++ b ∷ rights) list last d i u i₃ u₃
unfolding count
walked_open {g} {lefts = lefts} {rights} b e slots v f w = record {
  listed = listed_around slots v.listed f w.listed;
  visits = omega (arith, v.visits, w.visits, count_append (is_open g) lefts (b ∷ rights), ap bit e);
}
