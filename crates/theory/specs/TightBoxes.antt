-- Where tight boxes lie, and their list. A tight box holds its run and lies within every box that does, so that a branch's lies within its parent's.
-- Nothing is asked of the tree; the laws of the list go down the run as the list does.
use Rattle.std.specs.Prelude.{◌≡◌, refl, Bool, false, List, [], ◌∷◌, ◌++◌, ℕ, zero, suc, ◌+◌, ◌≤◌, ◌<◌, length, ℤ}
use Rattle.std.proofs.Common.{ap, ◌∙◌, not-suc-le-zero, arith, length-append}
use Rattle.terms.specs.Tests.{bit, count}
use Rattle.terms.specs.Run.{lefts, rights}
use Rattle.terms.specs.Box.{Box}
use Rattle.terms.specs.TightBox.{tight_box, tight_boxes}
use Rattle.terms.specs.Region.{Region, is_open}
use Rattle.theory.specs.Counting.{count_append}
use Rattle.theory.specs.RunParts.{left_length, right_length, left_at, right_at}
use Rattle.theory.specs.Boxes.{Nested, Held}
use Rattle.theory.specs.BoxLaws.{held_root}
use Rattle.theory.specs.RootBoxOfSame.{root_between}
use Rattle.theory.specs.Tested.{Between}
use Rattle.theory.specs.Nesting.{settled_nested}

-- A tight box lies within every box that holds its run.
pub tight_nested : (k : ℕ) (at : ℕ → ℕ → ℤ) (run : List ℕ) {b : Box} → 0 < length run → Held k at b run → Nested k (tight_box at run) b
tight_nested k at run {b} some w = record { least = λ d l. (both d l).0.from_least; most = λ d l. (both d l).1.to_greatest }
  where
    both : (d : ℕ) → d < k → Between (b.low d) ((tight_box at run).low d) (b.high d) × Between (b.low d) ((tight_box at run).high d) (b.high d)
    both d l = root_between at d run some (λ i m. record { from_least = (w.each i m).least d l; to_greatest = (w.each i m).most d l })

-- What holds a run holds its branches.
module _ {k : ℕ} {at : ℕ → ℕ → ℤ} {b : Box} {run : List ℕ} (w : Held k at b run) where
  pub held_lefts : Held k at b (lefts run)
  held_lefts = record { each = λ i l. rw (left_at run i l) (w.each i (omega (arith, left_length run))) }

  pub held_rights : Held k at b (rights run)
  held_rights = record { each = λ i l. rw (right_at run i) (w.each _ (omega (arith, right_length run))) }

-- A branch's tight box lies within its parent's.
module _ (k : ℕ) (at : ℕ → ℕ → ℤ) (run : List ℕ) where
  pub left_tight_nested : 0 < length (lefts run) → Nested k (tight_box at (lefts run)) (tight_box at run)
  left_tight_nested some = tight_nested k at (lefts run) some (held_lefts (held_root k at run))

  pub right_tight_nested : 0 < length (rights run) → Nested k (tight_box at (rights run)) (tight_box at run)
  right_tight_nested some = tight_nested k at (rights run) some (held_rights (held_root k at run))

-- The list of a run that is not empty.
pub tights_split : (f : ℕ) (at : ℕ → ℕ → ℤ) (run : List ℕ) → 0 < length run
    → tight_boxes (suc f) at run ≡ tight_boxes f at (lefts run) ++ tight_box at run ∷ tight_boxes f at (rights run)
unfolding tight_boxes
tights_split f at [] some = absurd (not-suc-le-zero some)
tights_split f at (x ∷ xs) some = refl

pub count_tights : (test : Box → Bool) (f : ℕ) (at : ℕ → ℕ → ℤ) (run : List ℕ) → 0 < length run
    → count test (tight_boxes (suc f) at run) ≡ count test (tight_boxes f at (lefts run)) + (bit (test (tight_box at run)) + count test (tight_boxes f at (rights run)))
unfolding count
count_tights test f at run some =
    ap (count test) (tights_split f at run some) ∙ count_append test (tight_boxes f at (lefts run)) (tight_box at run ∷ tight_boxes f at (rights run))

-- There is one box for each slot.
pub tights_length : (f : ℕ) (at : ℕ → ℕ → ℤ) (run : List ℕ) → length run ≤ f → length (tight_boxes f at run) ≡ length run
unfolding tight_boxes
tights_length zero at [] h = refl
tights_length zero at (x ∷ xs) h = absurd (not-suc-le-zero h)
tights_length (suc f) at [] h = refl
tights_length (suc f) at (x ∷ xs) h =
    let m = left_length (x ∷ xs) in
    let r = right_length (x ∷ xs) in
    omega (
      arith,
      length-append (tight_boxes f at (lefts (x ∷ xs))) (tight_box at (x ∷ xs) ∷ tight_boxes f at (rights (x ∷ xs))),
      tights_length f at (lefts (x ∷ xs)) (omega arith),
      tights_length f at (rights (x ∷ xs)) (omega arith),
    )

-- The first number does not matter once it is the run's length.
pub tights_fuel : (e f : ℕ) (at : ℕ → ℕ → ℤ) (run : List ℕ) → length run ≤ e → length run ≤ f → tight_boxes e at run ≡ tight_boxes f at run
unfolding tight_boxes
tights_fuel zero zero at run h l = refl
tights_fuel zero (suc f) at [] h l = refl
tights_fuel zero (suc f) at (x ∷ xs) h l = absurd (not-suc-le-zero h)
tights_fuel (suc e) zero at [] h l = refl
tights_fuel (suc e) zero at (x ∷ xs) h l = absurd (not-suc-le-zero l)
tights_fuel (suc e) (suc f) at [] h l = refl
tights_fuel (suc e) (suc f) at (x ∷ xs) h l =
    let m = left_length (x ∷ xs) in
    let r = right_length (x ∷ xs) in
    rw (
      tights_fuel e f at (lefts (x ∷ xs)) (omega arith) (omega arith),
      tights_fuel e f at (rights (x ∷ xs)) (omega arith) (omega arith),
    )

-- Below a settled box that holds the run no tight box is open, so what is not walked adds nothing.
pub settled_none_tight : (f : ℕ) (g : Region) (at : ℕ → ℕ → ℤ) (run : List ℕ) {b : Box} → Held g.k at b run → is_open g b ≡ false
    → count (is_open g) (tight_boxes f at run) ≡ 0
unfolding tight_boxes count
settled_none_tight zero g at run w e = refl
settled_none_tight (suc f) g at [] w e = refl
settled_none_tight (suc f) g at (x ∷ xs) w e = omega (
  arith,
  count_tights (is_open g) f at (x ∷ xs) (omega arith),
  settled_none_tight f g at (lefts (x ∷ xs)) (held_lefts w) e,
  settled_none_tight f g at (rights (x ∷ xs)) (held_rights w) e,
  ap bit (settled_nested g (tight_nested g.k at (x ∷ xs) (omega arith) w) e),
)
