-- The visits of square faces. At a split on the axis of one square face the two branches' boxes share the node's coordinate there, and "left
-- open" and "right open" say opposite things of the same number, so at most one is open, and by nesting the other counts nothing.
use Rattle.std.specs.Prelude.{◌≡◌, refl, Bool, true, false, not, ◌⊎◌, ◌≢◌, length, pos, negsuc, nat_abs, ◌*ℤ◌, eqb}
use mathlib.Core.List.{List, [], ◌∷◌}
use Rattle.std.proofs.Common.{inl, inr, mod-eq_of_lt, eqb-true, leb-true}
use Rattle.std.proofs.Math.Logic.{⊎_elim}
use Prim.Native.Nat.{ℕ, zero, suc, ◌+◌, ◌-◌, ◌*◌, ◌%◌, ◌^◌, ◌≤◌, ◌<◌}
use Rattle.std.proofs.Math.Nat.{two-pow-succ, add-mod_right}
use Rattle.std.proofs.Math.Decide.{ℕ_discrete}
use native.Mathlib.Omega.{arith}
use Rattle.std.proofs.Math.IntN.{ℤ}
use Rattle.whole.proofs.Products.{zero_mul}
use Rattle.whole.proofs.Magnitudes.{abs_zero}
use Rattle.whole.proofs.IndexedSum.{sum_same}
use Rattle.whole.specs.IndexedTotal.{total_to}
use Rattle.whole.proofs.IndexedTotal.{total_most, total_one_of}
use Rattle.terms.specs.Tests.{bit, count}
use Rattle.terms.specs.Run.{axis, node, lefts, rights}
use Rattle.terms.specs.Tree.{tree_run}
use Rattle.terms.specs.Box.{Box, left_box, right_box, root_box, boxes}
use Rattle.terms.specs.Region.{Region, alone, reach, above, against, along, is_open}
use Rattle.terms.specs.Visits.{visits}
use Rattle.terms.specs.Bound.{digits, S, is_square}
use Rattle.theory.specs.Flags.{clash, not_false}
use Rattle.theory.specs.Counting.{bit_le}
use Rattle.theory.specs.RunParts.{Parts, parts, left_length, right_length}
use Rattle.theory.specs.Boxes.{Held}
use Rattle.theory.specs.BoxLaws.{replaced_same, held_root}
use Rattle.theory.proofs.BoxLaws.{held_left, held_right}
use Rattle.theory.specs.BoxFuel.{count_boxes, visits_count}
use Rattle.theory.specs.Nesting.{Open, to_open}
use Rattle.theory.proofs.Nesting.{settled_none_open}
use Rattle.theory.specs.SumBound.{visits_le_faces}
use Rattle.theory.specs.BoundBySteps.{step_bound}
use Rattle.theory.proofs.BoundBySteps.{step_bound_le_S, digits_room}

-- Face i has no component but the one on the axis a. A normal of all zeros has any axis.
record OnAxis (g : Region) (i a : ℕ) : Type 0 where
  only : (d : ℕ) → d < g.k → d ≢ a → g.component i d ≡ pos 0

-- The sum of products is known from the coordinate on the axis.
reach_on_axis : (g : Region) (i a : ℕ) (x y : ℕ → ℤ) → OnAxis g i a → x a ≡ y a → reach g i x ≡ reach g i y
reach_on_axis g i a x y w e = sum_same g.k _ _ (λ d l. go d l (ℕ_discrete d a))
  where
    go : (d : ℕ) → d < g.k → Dec (d ≡ a) → g.component i d *ℤ x d ≡ g.component i d *ℤ y d
    go d l (yes q) = rw (q, e)
    go d l (no n) = rw (w.only d l n, zero_mul (x d), zero_mul (y d))

-- A region of one face on the axis a.
module _ (g : Region) (single : g.h ≡ 1) (a : ℕ) (w : OnAxis g 0 a) where
  face_open : {c : Box} → Open g c → (above g 0 (along g 0 c) ≡ true) × (above g 0 (against g 0 c) ≡ false)
  face_open {c} o =
      let n = o.not_above in
      let z : n.0 ≡ 0 = omega arith in
      (not_false (above g 0 (along g 0 c)) (o.not_below 0 (omega arith)), rw z at n.2)

  -- Two boxes are not both open where the one ends along the axis as the other begins.
  not_both_open : {c d : Box} → along g 0 c a ≡ against g 0 d a → Open g c → Open g d → ⊥
  not_both_open {c} {d} e o u =
      let q : reach g 0 (along g 0 c) ≡ reach g 0 (against g 0 d) = reach_on_axis g 0 a _ _ w e in
      clash (face_open o).0 (rw q (face_open u).1)

-- So at a split on the axis one of the two branches is settled.
module _ (g : Region) (single : g.h ≡ 1) (a : ℕ) (w : OnAxis g 0 a) (b : Box) (v : ℤ) where
  branches_not_both_open : (n : ℤ) → g.component 0 a ≡ n → Open g (left_box b a v) → Open g (right_box b a v) → ⊥
  branches_not_both_open (pos n) e l r = not_both_open g single a w (rw (e, replaced_same b.high a v, replaced_same b.low a v)) l r
  branches_not_both_open (negsuc n) e l r = not_both_open g single a w (rw (e, replaced_same b.high a v, replaced_same b.low a v)) r l

  one_settled : (is_open g (left_box b a v) ≡ false) ⊎ (is_open g (right_box b a v) ≡ false)
  one_settled = go (is_open g (left_box b a v)) (is_open g (right_box b a v)) refl refl
    where
      go : (s t : Bool) → is_open g (left_box b a v) ≡ s → is_open g (right_box b a v) ≡ t
          → (is_open g (left_box b a v) ≡ false) ⊎ (is_open g (right_box b a v) ≡ false)
      go false t p q = inl p
      go true false p q = inr q
      go true true p q = absurd (branches_not_both_open (g.component 0 a) refl (to_open p) (to_open q))

-- One face on the axis a, in a tree of p + 1 dimensions: t splits come before the next one on a.
module _ (g : Region) (single : g.h ≡ 1) (p a : ℕ) (dims : g.k ≡ suc p) (w : OnAxis g 0 a) (at : ℕ → ℕ → ℤ) where
  next_on_axis : (j : ℕ) → (j + 0) % g.k ≡ a → (suc j + p) % g.k ≡ a
  next_on_axis j h =
      let e : suc j + p ≡ j + g.k = omega arith in
      let z : j + 0 ≡ j = omega arith in
      rw (e, add-mod_right) (rw z at h)

  face_steps : (f H t j : ℕ) (run : List ℕ) (b : Box) → tree_run f g.k at j run ≡ true → Held g.k at b run
      → length run < 2 ^ H → (j + t) % g.k ≡ a → count (is_open g) (boxes f g.k at j run b) ≤ step_bound p H t
  unfolding boxes count step_bound
  face_steps zero H t j run b tree held room ax = omega arith
  face_steps (suc f) H t j [] b tree held room ax = omega arith
  face_steps (suc f) zero t j (x ∷ xs) b tree held room ax = absurd (omega arith)
  face_steps (suc f) (suc H) zero j (x ∷ xs) b tree held room ax =
      let q : Parts f g.k at j (x ∷ xs) = parts x xs tree in
      let two = two-pow-succ H in
      let s : ℕ = axis g.k j in
      let v : ℤ = at (node (x ∷ xs)) s in
      let z : j + 0 ≡ j = omega arith in
      let on : OnAxis g 0 s = rw (rw z at ax) w in
      let l = face_steps f H p (suc j) (lefts (x ∷ xs)) _ q.left (held_left q held) (omega (arith, left_length (x ∷ xs))) (next_on_axis j ax) in
      let r = face_steps f H p (suc j) (rights (x ∷ xs)) _ q.right (held_right q held) (omega (arith, right_length (x ∷ xs))) (next_on_axis j ax) in
      let split = count_boxes (is_open g) f g.k at j (x ∷ xs) b (omega arith) in
      ⊎_elim
      (λ no-left.
      omega (arith, bit_le (is_open g b), settled_none_open f f g at (suc j) (lefts (x ∷ xs)) (left_box b s v) q.left (held_left q held) no-left))
      (λ no-right.
      omega (arith, bit_le (is_open g b), settled_none_open f f g at (suc j) (rights (x ∷ xs)) (right_box b s v) q.right (held_right q held) no-right))
      (one_settled g single s on b v)
  face_steps (suc f) (suc H) (suc t) j (x ∷ xs) b tree held room ax =
      let q : Parts f g.k at j (x ∷ xs) = parts x xs tree in
      let two = two-pow-succ H in
      let e : suc j + t ≡ j + suc t = omega arith in
      let l = face_steps f H t (suc j) (lefts (x ∷ xs)) _ q.left (held_left q held) (omega (arith, left_length (x ∷ xs))) (rw e ax) in
      let r = face_steps f H t (suc j) (rights (x ∷ xs)) _ q.right (held_right q held) (omega (arith, right_length (x ∷ xs))) (rw e ax) in
      omega (arith, bit_le (is_open g b), count_boxes (is_open g) f g.k at j (x ∷ xs) b (omega arith))

zero_component : (z : ℤ) → bit (not (eqb (nat_abs z) 0)) ≡ 0 → z ≡ pos 0
zero_component z h = go (eqb (nat_abs z) 0) refl h
  where
    go : (t : Bool) → eqb (nat_abs z) 0 ≡ t → bit (not t) ≡ 0 → z ≡ pos 0
    go true e h = abs_zero (eqb-true (nat_abs z) 0 e)
    go false e h = absurd (omega arith)

-- "A face is square when at most one component is not zero": it has an axis.
square_axis : (g : Region) (i p : ℕ) → g.k ≡ suc p → is_square g i ≡ true → (a : ℕ) × (a < suc p) × OnAxis (alone g i) 0 a
unfolding is_square
square_axis g i p dims e =
    let f : ℕ → ℕ = λ d. bit (not (eqb (nat_abs (g.component i d)) 0)) in
    let s : total_to (suc p) f ≤ 1 = rw (← dims) (leb-true (total_to g.k f) 1 e) in
    let o = total_one_of p f s in
    (o.0, o.1, record { only = λ d l n. zero_component (g.component i d) (o.2 d (omega arith) n) })

-- The root stands a splits before the first one on the axis a.
root_axis : (a k : ℕ) → a < k → (0 + a) % k ≡ a
root_axis a k l = let z : 0 + a ≡ a = omega arith in rw z (mod-eq_of_lt l)

module _ (g : Region) (at : ℕ → ℕ → ℤ) (run : List ℕ) (some : 0 < g.k) (tree : tree_run (length run) g.k at 0 run ≡ true) where
  -- One square face alone costs at most S visits.
  pub square_face_le_S : (i : ℕ) → is_square g i ≡ true → visits (alone g i) at run ≤ S (length run) g.k
  square_face_le_S i e = go (g.k - 1) (omega arith)
    where
      on_axis : (p : ℕ) → g.k ≡ suc p → (a : ℕ) × (a < suc p) × OnAxis (alone g i) 0 a → visits (alone g i) at run ≤ S (length run) g.k
      on_axis p dims (a, l, w) = omega (
        arith,
        visits_count (alone g i) at run,
        face_steps (alone g i) refl p a dims w at (length run) (digits (length run)) a 0 run (root_box at run) tree (held_root g.k at run)
            (digits_room (length run)) (root_axis a g.k (omega arith)),
        rw (← dims) at (step_bound_le_S p (length run) a (omega arith)),
      )

      go : (p : ℕ) → g.k ≡ suc p → visits (alone g i) at run ≤ S (length run) g.k
      go p dims = on_axis p dims (square_axis g i p dims e)

  -- "Where all faces are square, visits are at most h times S(n, k)."
  pub square_visits_le_S : ((i : ℕ) → i < g.h → is_square g i ≡ true) → visits g at run ≤ g.h * S (length run) g.k
  square_visits_le_S e = omega (
    arith,
    visits_le_faces g at run,
    total_most g.h (S (length run) g.k) (λ i. visits (alone g i) at run) (λ i l. square_face_le_S i (e i l)),
  )
