-- A point measured against the faces one after the other: whether it is above all so far, and the least margin so far with its lowest-numbered face. The
-- first face leads; a later one leads where its margin is strictly less.
use Rattle.std.specs.Prelude.{◌≡◌, Bool, true, false, ◌&&◌, Option, Some, None, ℤ, pos}
use Rattle.std.specs.Int.Signed.{lt_z}
use Rattle.std.proofs.Common.{refl, sym, ◌∙◌}
use Prim.Native.Nat.{ℕ, zero, suc, ◌+◌, ◌≤◌}
use native.Mathlib.Omega.{arith}
use Rattle.terms.specs.Tests.{keep, all_to, rising}
use Rattle.terms.specs.Region.{Region, above, inside}
use Rattle.terms.specs.Margin.{margin, least_to, lowest_least, least_face, least_margin}
use Rattle.whole.proofs.Order.{lt_z_lt, lt_z_ge}
use Rattle.theory.specs.Flags.{clash}
use Rattle.theory.specs.Margins.{LeastAt, least_at_once, least_at_first, least_at_lower, least_at_kept, least_words}
use Rattle.terms.specs.declared.answers.LeastMargin.{LeastMargin}
use Rattle.terms.specs.declared.answers.Placed.{Placed}

-- What is measured of a point: whether it is inside, the least margin, and the lowest-numbered face that has it.
pub record MeasuredAs (g : Region) (x : ℕ → ℤ) (within : Bool) (face : ℕ) (least : ℤ) : Type 0 where
  pub within_is : within ≡ inside g x
  pub face_is : face ≡ least_face g x
  pub least_is : least ≡ least_margin g x

-- The face of the least margin, and the margin itself; 0 where there are no faces.
abbrev pub face_or_zero : Option LeastMargin → ℕ
face_or_zero None = 0
face_or_zero (Some m) = m.face

abbrev pub margin_or_zero : Option LeastMargin → ℤ
margin_or_zero None = pos 0
margin_or_zero (Some m) = m.margin

-- The least of the margins to the first i faces, and the lowest-numbered face that has it, where there is a face.
abbrev pub LeastSo : Region → (ℕ → ℤ) → ℕ → Option LeastMargin → Type 0
LeastSo g x i None = i ≡ 0
LeastSo g x i (Some m) = LeastAt i (λ j. margin g j x) m.face m.margin

-- What the value that was measured says: the words, and that there is no least margin only where there are no faces.
pub record PointMeasured (g : Region) (x : ℕ → ℤ) (m : Placed) : Type 0 where
  pub words : MeasuredAs g x m.inside (face_or_zero m.least) (margin_or_zero m.least)
  pub least : LeastSo g x g.h m.least

-- Whether the next face leads: it is the first, or its margin is strictly less than the least so far.
abbrev pub Leads : ℤ → Option LeastMargin → Bool → Type 0
Leads m None answer = answer ≡ true
Leads m (Some l) answer = answer ≡ lt_z m l.margin

-- The loop: the first i faces are measured.
pub record Measuring (g : Region) (x : ℕ → ℤ) (i : ℕ) (within : Bool) (so_far : Option LeastMargin) : Type 0 where
  pub all : within ≡ all_to i (λ j. above g j x)
  pub least : LeastSo g x i so_far

pub measuring_none : (g : Region) (x : ℕ → ℤ) → Measuring g x 0 true None
unfolding all_to
measuring_none g x = record { all = refl; least = refl }

-- The least so far, with one more face, which leads or does not.
module _ (g : Region) (x : ℕ → ℤ) (i : ℕ) where
  least_leads : (so_far : Option LeastMargin) → LeastSo g x i so_far → Leads (margin g i x) so_far true → LeastAt (i + 1) (λ j. margin g j x) i (margin g i x)
  least_leads None e t = rw e least_at_first
  least_leads (Some m) p t = least_at_lower p (lt_z_lt (sym t))

  least_trails : (so_far : Option LeastMargin) → LeastSo g x i so_far → Leads (margin g i x) so_far false → LeastSo g x (i + 1) so_far
  least_trails None e t = clash refl (sym t)
  least_trails (Some m) p t = least_at_kept p (lt_z_ge (sym t))

module _ {g : Region} {x : ℕ → ℤ} {i : ℕ} {within : Bool} {so_far : Option LeastMargin} (w : Measuring g x i within so_far) {own : Bool} (told : own ≡ above g i x) where
  -- Whether all are above, with one more.
  all_next : within && own ≡ all_to (i + 1) (λ j. above g j x)
  unfolding all_to
  all_next = let n : i + 1 ≡ suc i = omega arith in rw (n, w.all, told)

  -- The next face leads, or does not.
  pub measuring_leads : {next : Bool} → next ≡ within && own → Leads (margin g i x) so_far true
      → Measuring g x (i + 1) next (Some (record { face = i; margin = margin g i x }))
  measuring_leads e t = record { all = e ∙ all_next; least = least_leads g x i so_far w.least t }

  pub measuring_trails : {next : Bool} → next ≡ within && own → Leads (margin g i x) so_far false → Measuring g x (i + 1) next so_far
  measuring_trails e t = record { all = e ∙ all_next; least = least_trails g x i so_far w.least t }

-- What is least of all margins is what the words say.
least_said : (h : ℕ) (g : Region) (x : ℕ → ℤ) (least : Option LeastMargin) → g.h ≡ h → LeastSo g x h least
    → (face_or_zero least ≡ least_face g x) × (margin_or_zero least ≡ least_margin g x)
unfolding least_to lowest_least keep rising
least_said zero g x None e w = (rw e, rw e)
least_said zero g x (Some m) e w = absurd (omega (arith, w.known))
least_said (suc h) g x None e w = absurd (omega arith)
least_said (suc h) g x (Some m) e w = rw e (least_at_once w (least_words h (λ j. margin g j x)))

-- All faces are measured.
pub measuring_done : {g : Region} {x : ℕ → ℤ} {within : Bool} {least : Option LeastMargin} → Measuring g x g.h within least
    → PointMeasured g x (record { inside = within; least = least })
unfolding inside
measuring_done {g} {x} {within} {least} w =
    let said = least_said g.h g x least refl w.least in
    record { words = record { within_is = w.all; face_is = said.0; least_is = said.1 }; least = w.least }

-- The face is below h, or 0 where there are none.
lowest_least_small : (h : ℕ) (value : ℕ → ℤ) → lowest_least h value ≤ h
unfolding lowest_least keep rising
lowest_least_small zero value = omega arith
lowest_least_small (suc h) value = let l = (least_words h value).known in omega arith

pub measured_small : {g : Region} {x : ℕ → ℤ} {within : Bool} {face : ℕ} {least : ℤ} → MeasuredAs g x within face least → face ≤ g.h
measured_small {g} {x} w = rw w.face_is (lowest_least_small g.h (λ i. margin g i x))
