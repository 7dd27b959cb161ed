-- The sum S by its steps down the tree: the bound by steps is S with the split on the axis last, and grows towards it.
-- Each step adds one more term of S.
use Rattle.std.specs.Prelude.{◌≡◌, refl, ℕ, zero, suc, ◌+◌, ◌-◌, ◌/◌, ◌^◌, ◌≤◌, ◌<◌}
use Rattle.std.proofs.Common.{ap, ◌∙◌, not-suc-le-zero, div-lt_iff_lt-mul, mul-suc, suc-mul, arith}
use Rattle.std.proofs.Math.Nat.{two-pow-succ, add-div_right, zero-sub}
use Rattle.whole.specs.IndexedTotal.{total_to}
use Rattle.whole.proofs.IndexedTotal.{total_front, total_same, total_twice}
use Rattle.terms.specs.Bound.{digits_within, digits, S}
use Rattle.theory.specs.BoundBySteps.{step_bound}

-- The later the split on the axis, the greater the bound, up to twice. Both halves are needed for either.
step_bound_grows : (p H t u : ℕ) → t ≤ u → u ≤ p
    → (step_bound p H t ≤ step_bound p H u) × (step_bound p H u ≤ step_bound p H t + step_bound p H t)
unfolding step_bound
step_bound_grows p zero t u h k = omega arith
step_bound_grows p (suc H) zero zero h k = omega arith
step_bound_grows p (suc H) zero (suc u) h k = let ih = step_bound_grows p H u p (omega arith) (omega arith) in omega arith
step_bound_grows p (suc H) (suc t) zero h k = absurd (not-suc-le-zero h)
step_bound_grows p (suc H) (suc t) (suc u) h k = let ih = step_bound_grows p H t u (omega arith) (omega arith) in omega arith

-- Level j of the tree, when e splits came since the last one on the axis: it doubles at every split but those on the axis.
term : ℕ → ℕ → ℕ → ℕ
term p e j = 2 ^ (j - (j + e) / suc p)

few_on_axis : (p j e : ℕ) → e ≤ p → (j + e) / suc p ≤ j
few_on_axis p j e h =
    let l : (j + e) / suc p < suc j = (div-lt_iff_lt-mul {k = suc p} {x = j + e} {y = suc j} (omega arith)).1 (omega (arith, mul-suc j p, suc-mul j (suc p))) in
    omega arith

first_term : (p e : ℕ) → term p e 0 ≡ 1
unfolding term
first_term p e = rw zero-sub

-- After a split on the axis the next level is as wide as this one.
term_on_axis : (p j : ℕ) → term p p (suc j) ≡ term p 0 j
unfolding term
term_on_axis p j =
    let e : suc j + p ≡ j + suc p = omega arith in
    let z : j + 0 ≡ j = omega arith in
    let q : suc j - (suc j + p) / suc p ≡ j - (j + 0) / suc p = rw (e, z) (omega (arith, add-div_right j {k = suc p} (omega arith))) in
    ap (λ (n : ℕ). 2 ^ n) q

-- After another split it is twice as wide.
term_off_axis : (p e j : ℕ) → suc e ≤ p → term p e (suc j) ≡ term p (suc e) j + term p (suc e) j
unfolding term
term_off_axis p e j h =
    let z : suc j + e ≡ j + suc e = omega arith in
    let q : suc j - (suc j + e) / suc p ≡ suc (j - (j + suc e) / suc p) = rw z (omega (arith, few_on_axis p j (suc e) h)) in
    ap (λ (n : ℕ). 2 ^ n) q ∙ two-pow-succ (j - (j + suc e) / suc p)

step_bound_total : (p H t e : ℕ) → t + e ≡ p → step_bound p H t ≡ total_to H (term p e)
unfolding step_bound total_to
step_bound_total p zero t e h = refl
step_bound_total p (suc H) zero e h =
    let q : e ≡ p = omega arith in
    omega (
      arith,
      step_bound_total p H p 0 (omega arith),
      total_front H (term p e),
      first_term p e,
      total_same H (λ j. term p e (suc j)) (term p 0) (λ j l. rw q (term_on_axis p j)),
    )
step_bound_total p (suc H) (suc t) e h = omega (
  arith,
  step_bound_total p H t (suc e) (omega arith),
  total_front H (term p e),
  first_term p e,
  total_twice H (term p (suc e)) (λ j. term p e (suc j)) (λ j l. term_off_axis p e j (omega arith)),
)

-- "S(n, k) is the sum over j = 0 to H-1 of 2 to the power (j minus j/k rounded down)": it is the bound with the split on the axis last.
pub step_bound_le_S : (p n t : ℕ) → t ≤ p → step_bound p (digits n) t ≤ S n (suc p)
unfolding S term
step_bound_le_S p n t h =
    let same : total_to (digits n) (term p 0) ≡ total_to (digits n) (λ j. 2 ^ (j - j / suc p)) =
    total_same (digits n) _ _ (λ j l. let z : j + 0 ≡ j = omega arith in rw z) in
    omega (arith, step_bound_grows p (digits n) t p h (omega arith), step_bound_total p (digits n) p 0 (omega arith))

digits_within_room : (f n : ℕ) → n ≤ f → n < 2 ^ digits_within f n
unfolding digits_within
digits_within_room zero n h = omega arith
digits_within_room (suc f) zero h = omega arith
digits_within_room (suc f) (suc n) h =
    omega (arith, digits_within_room f (suc n / 2) (omega arith), two-pow-succ (digits_within f (suc n / 2)))

-- "H is the number of binary digits of n."
pub digits_room : (n : ℕ) → n < 2 ^ digits n
unfolding digits
digits_room n = digits_within_room n n (omega arith)
