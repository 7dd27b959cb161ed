-- How many passes choosing takes at most: every other pass is by the middle of the range of the pivots that are left, and halves it.
use Rattle.std.specs.Prelude.{◌≡◌, refl, Bool, true, false, ℕ, zero, suc, ◌+◌, ◌-◌, ◌/◌, ◌%◌, ◌≤◌, ◌<◌, ltb}
use Rattle.std.proofs.Common.{arith, ltb-true, ltb-false}

-- How far apart the ends of the range may lie after h passes by its middle.
pub span : ℕ → ℕ
span zero = 4294967295
span (suc h) = span h / 2

span_start : span 0 ≡ 4294967295
unfolding span
span_start = refl

span_next : (h : ℕ) → span (suc h) ≡ span h / 2
unfolding span
span_next h = refl

-- After 32 halvings nothing is left of it.
span_end : span 32 ≡ 0
unfolding span
span_end = refl

-- A pass's pivot is above lo and at most top, and every other pass it is the middle of the range.
pub record PivotOf (lo top pass r : ℕ) : Type 0 where
  pub above : lo < r
  pub within : r ≤ top
  pub middle : pass % 2 ≡ 1 → r ≡ lo + (top - lo) / 2 + 1

-- At most 64 passes are over, and lo and top lie as close as they leave them.
pub record Passed (lo top pass : ℕ) : Type 0 where
  pub near : top ≤ lo + span (pass / 2)
  pub most : pass ≤ 64

pub passed_none : Passed 0 4294967295 0
passed_none = record { near = omega (arith, span_start); most = omega arith }

module _ {lo top pass : ℕ} (w : Passed lo top pass) where
  -- While lo and top differ, a pass is left.
  pub pass_left : lo < top → pass < 64
  pass_left l = go (ltb pass 64) refl
    where
      go : (t : Bool) → ltb pass 64 ≡ t → pass < 64
      go true e = omega (arith, ltb-true)
      go false e =
          let q : pass / 2 ≡ 32 = omega (arith, ltb-false, w.most) in
          let s : span (pass / 2) ≡ 0 = rw q span_end in
          absurd (omega (arith, w.near))

  -- A pass keeps the pivots below its own, or those from it on.
  module _ {r : ℕ} (p : PivotOf lo top pass r) where
    half : (a e : ℕ) → e ≤ a + (top - lo) → (pass % 2 ≡ 1 → e ≤ a + (top - lo) / 2) → e ≤ a + span ((pass + 1) / 2)
    half a e l h = go (ltb 0 (pass % 2)) refl
      where
        go : (t : Bool) → ltb 0 (pass % 2) ≡ t → e ≤ a + span ((pass + 1) / 2)
        go true o =
            let s : (pass + 1) / 2 ≡ suc (pass / 2) = omega (arith, ltb-true) in
            rw s (omega (arith, w.near, span_next (pass / 2), h (omega (arith, ltb-true))))
        go false o =
            let s : (pass + 1) / 2 ≡ pass / 2 = omega (arith, ltb-false) in
            rw s (omega (arith, w.near))

    counted : pass + 1 ≤ 64
    counted = omega (arith, pass_left (omega (arith, p.above, p.within)))

    pub passed_left : Passed lo (r - 1) (pass + 1)
    passed_left = record { near = half lo (r - 1) (omega (arith, p.within)) (λ o. omega (arith, p.middle o)); most = counted }

    pub passed_right : Passed r top (pass + 1)
    passed_right = record { near = half r top (omega (arith, p.above)) (λ o. omega (arith, p.middle o)); most = counted }
