-- Branches by their tight boxes keep the laws of a walk's branches.
use Rattle.std.specs.Prelude.{◌≡◌, refl, false, List, [], ◌∷◌, ◌++◌, ℕ, ◌+◌, ◌-◌, ◌/◌, ◌<◌, ℤ}
use Rattle.std.proofs.Common.{◌∙◌, arith}
use Rattle.std.proofs.Math.Decide.{dec_lt}
use Rattle.terms.specs.Tests.{count}
use Rattle.terms.specs.Points.{coord}
use Rattle.terms.specs.Box.{Box, box_of}
use Rattle.terms.specs.TightBox.{tight_box, tight_boxes}
use Rattle.terms.specs.Region.{Region, is_open}
use Rattle.theory.specs.Boxes.{Held, Alike, Nested, alike_nested}
use Rattle.theory.specs.TightBoxes.{settled_none_tight}
use Rattle.descent.specs.declared.runs.Run.{Run}
use Rattle.descent.specs.Slots.{run_of}
use Rattle.descent.specs.declared.slots.Slots.{Slots}
use Rattle.walk.specs.Branches.{Going, Within, BranchLaws}
use Rattle.tight_walk.specs.declared.tight_boxes.TightBoxes.{TightBoxes}
use Rattle.tight_walk.specs.TightBoxes.{tights, Summarised, BoxRead, tights_many, read_alike, read_ranges, read_held, read_nested, summarised_left, summarised_right, left_held, right_held, tights_whole}

-- The run is a branch that is summarised, in a box that holds it: its tight box, where it has a slot.
pub record GoesByTightBox (S : List ℤ) (n : Slots) (r : Run) : Type 0 where
  pub summarised : Summarised n.k n.points.now n.order.now S r.start r.length
  pub around : Box
  pub held : Held n.k (coord n.k n.points.now) around (run_of n.order.now r.start r.length)
  pub read : BoxRead n.k S r.start r.length around (box_of r.rows)

-- Its tight box, and the tight boxes of its slots.
abbrev pub own_box : Slots → Run → Box
own_box n r = tight_box (coord n.k n.points.now) (run_of n.order.now r.start r.length)

abbrev pub tight_slots : Slots → Run → List Box
tight_slots n r = tights (coord n.k n.points.now) n.order.now r.start r.length

-- The run is the branch of these slots, with the box that was read for it on the way from a branch in the box around.
pub record ReadFor (S : List ℤ) (n : Slots) (a c : ℕ) (around : Box) (r : Run) : Type 0 where
  pub starts : r.start ≡ a
  pub slots : r.length ≡ c
  pub read : BoxRead n.k S a c around (box_of r.rows)

abbrev pub LeftOf : List ℤ → Slots → Run → Run → Type 0
LeftOf S n r l = ReadFor S n r.start (r.length / 2) (box_of r.rows) l

abbrev pub RightOf : List ℤ → Slots → Run → Run → Type 0
RightOf S n r t = ReadFor S n (r.start + r.length / 2 + 1) (r.length - r.length / 2 - 1) (box_of r.rows) t

-- No slots have no boxes.
no_tights : (at : ℕ → ℕ → ℤ) (order : List ℕ) (a c : ℕ) → c ≡ 0 → tights at order a c ≡ []
unfolding tight_boxes
no_tights at order a c e = rw e refl

-- No slot of a settled run is open by its tight box, whatever region has as many dimensions.
settled_at : (g : Region) {k : ℕ} {at : ℕ → ℕ → ℤ} (c : ℕ) (run : List ℕ) {b : Box} → g.k ≡ k → Held k at b run → is_open g b ≡ false
    → count (is_open g) (tight_boxes c at run) ≡ 0
settled_at g {at = at} c run e held shut = settled_none_tight c g at run (rw e held) shut

module _ (S : List ℤ) (n : Slots) (r : Run) (w : GoesByTightBox S n r) where
  abbrev at : ℕ → ℕ → ℤ
  at = coord n.k n.points.now

  -- The box holds the run, whether it has a slot or not.
  held : Held n.k at (box_of r.rows) (run_of n.order.now r.start r.length)
  held = elim (dec_lt 0 r.length) [
    | yes some ↦ read_held w.summarised some (w.read.read some)
    | no m ↦ rw (w.read.none (omega arith)) w.held
  ]

  going : Going n.k at n.order.now r.start r.length (box_of r.rows) (tight_slots n r)
  going = record {
    fits = w.summarised.fits;
    held = held;
    ranges = λ some. read_ranges w.summarised some (w.read.read some);
    long = tights_many w.summarised;
    settled = λ g e shut. settled_at g r.length (run_of n.order.now r.start r.length) e held shut;
  }

  -- What was read for a part of its slots lies within its box.
  within : (a c : ℕ) (t : Run) → Summarised n.k n.points.now n.order.now S a c → Held n.k at (box_of r.rows) (run_of n.order.now a c)
      → ReadFor S n a c (box_of r.rows) t → GoesByTightBox S n t × Within n.k a c (box_of r.rows) t
  within a c t s h e = (
    record {
      summarised = rw (e.starts, e.slots) s;
      around = box_of r.rows;
      held = rw (e.starts, e.slots) h;
      read = rw (e.starts, e.slots) e.read;
    },
    record { starts = e.starts; slots = e.slots; nested = nested },
  )
    where
      nested : Nested n.k (box_of t.rows) (box_of r.rows)
      nested = elim (dec_lt 0 c) [
        | yes some ↦ read_nested s some (e.read.read some) h
        | no m ↦ rw (e.read.none (omega arith)) (alike_nested (record { lows = λ d l. refl; highs = λ d l. refl }))
      ]

  module _ (some : 0 < r.length) where
    alike : Alike n.k (box_of r.rows) (own_box n r)
    alike = read_alike w.summarised some (w.read.read some)

    goes_left : (l : Run) → LeftOf S n r l → GoesByTightBox S n l × Within n.k r.start (r.length / 2) (box_of r.rows) l
    goes_left l e = within r.start (r.length / 2) l (summarised_left w.summarised some) (left_held w.summarised some held) e

    goes_right : (t : Run) → RightOf S n r t → GoesByTightBox S n t × Within n.k (r.start + r.length / 2 + 1) (r.length - r.length / 2 - 1) (box_of r.rows) t
    goes_right t e = within (r.start + r.length / 2 + 1) (r.length - r.length / 2 - 1) t (summarised_right w.summarised some) (right_held w.summarised some held) e

    whole : (l t : Run) → LeftOf S n r l → RightOf S n r t → tight_slots n r ≡ tight_slots n l ++ own_box n r ∷ tight_slots n t
    whole l t e f = tights_whole w.summarised some ∙ rw (e.starts, e.slots, f.starts, f.slots) refl

    alone : r.length ≡ 1 → tight_slots n r ≡ own_box n r ∷ []
    alone one =
        let lefts : tights at n.order.now r.start (r.length / 2) ≡ [] = no_tights at n.order.now _ (r.length / 2) (omega arith) in
        let rights : tights at n.order.now (r.start + r.length / 2 + 1) (r.length - r.length / 2 - 1) ≡ [] = no_tights at n.order.now _ (r.length - r.length / 2 - 1) (omega arith) in
        tights_whole w.summarised some ∙ rw (lefts, rights) refl

pub tight_box_laws : BranchLaws {Self = TightBoxes} (λ t. GoesByTightBox t.summary.now) (λ _. own_box) (λ _. tight_slots) (λ t. LeftOf t.summary.now) (λ t. RightOf t.summary.now)
tight_box_laws = record {
  going = λ s n r w. going s.summary.now n r w;
  alike = λ s n r w some. alike s.summary.now n r w some;
  left = λ s n r l w some e. goes_left s.summary.now n r w some l e;
  right = λ s n r t w some e. goes_right s.summary.now n r w some t e;
  whole = λ s n r l t w some e f. whole s.summary.now n r w some l t e f;
  alone = λ s n r w one. alone s.summary.now n r w (omega arith) one;
}
