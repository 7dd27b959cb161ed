-- The reason that is found by the table of the faces is the one that is found by the faces.
use Rattle.std.specs.Prelude.{◌≡◌, Bool, true, false, cond, length, eqb}
use Rattle.std.proofs.Math.Path.{refl}
use Rattle.std.proofs.Common.{ap, arith}
use mathlib.Core.List.{List, [], ◌∷◌}
use Prim.Native.Nat.{ℕ, zero, suc, ◌+◌, ◌<◌}
use Rattle.std.proofs.Math.IntN.{ℤ}
use Rattle.std.proofs.lemmas.Bool.{eqb-false}
use Rattle.terms.specs.declared.Reason.{Reason}
use Rattle.terms.specs.declared.Reason.TheVariants.{InsideWithBranch, OutsideWithBranch, OutsideByItself}
use Rattle.terms.specs.Tests.{all_to, lowest_to}
use Rattle.terms.specs.Lent.{faces_of}
use Rattle.terms.specs.Run.{middle, axis, node, lefts, rights}
use Rattle.terms.specs.Box.{Box, left_box, right_box}
use Rattle.terms.specs.Region.{Region, region, wholly_above, wholly_below, is_below}
use Rattle.terms.specs.Margin.{margin}
use Rattle.terms.specs.Explain.{own_reason, branch_reason, reason_in}
use Rattle.theory.specs.AllAndAny.{all_same}
use Rattle.theory.specs.LowestThatPasses.{lowest_same, lowest_stops}
use Rattle.region.specs.Table.{Tabled, tabled, is_below_tabled, margin_tabled, wholly_above_tabled, wholly_below_tabled}

module _ {k : ℕ} {normals table : List ℤ} (offsets : List ℤ) (marks : List ℕ) (t : Tabled k normals (length offsets) table) where
  abbrev by_table : Region
  by_table = tabled k (faces_of table offsets marks)

  abbrev by_faces : Region
  by_faces = region k (faces_of normals offsets marks)

  -- A reason that names the lowest face that passes a test, with the margin to it, where one does.
  named_same : (test : ℕ → Bool) (x : ℕ → ℤ) {none other : Reason} (named : ℕ → ℤ → Reason) → none ≡ other
      → let f : ℕ = lowest_to (length offsets) test in
      cond (eqb f (length offsets)) none (named f (margin by_table f x)) ≡ cond (eqb f (length offsets)) other (named f (margin by_faces f x))
  named_same test x {none} {other} named e = go (eqb (lowest_to (length offsets) test) (length offsets)) refl
    where
      f : ℕ
      f = lowest_to (length offsets) test

      go : (u : Bool) → eqb (lowest_to (length offsets) test) (length offsets) ≡ u
          → cond u none (named (lowest_to (length offsets) test) (margin by_table (lowest_to (length offsets) test) x))
          ≡ cond u other (named (lowest_to (length offsets) test) (margin by_faces (lowest_to (length offsets) test) x))
      go true q = e
      go false q =
          let known : f < length offsets = omega (arith, (lowest_stops (length offsets) test).most, eqb-false (lowest_to (length offsets) test) (length offsets) q) in
          ap (named f) (margin_tabled offsets marks t f known x)

  own_same : (x : ℕ → ℤ) (s : ℕ) → own_reason by_table x s ≡ own_reason by_faces x s
  unfolding own_reason
  own_same x s =
      rw (lowest_same (length offsets) (is_below by_table x) (is_below by_faces x) (λ i l. is_below_tabled offsets marks t i l x))
      (named_same (is_below by_faces x) x (λ f m. OutsideByItself s f m) refl)

  branch_same : (x : ℕ → ℤ) (b : Box) (s : ℕ) {rest other : Reason} → rest ≡ other → branch_reason by_table x b s rest ≡ branch_reason by_faces x b s other
  unfolding branch_reason
  branch_same x b s e =
      rw (
        lowest_same (length offsets) (wholly_below by_table b) (wholly_below by_faces b) (λ i l. wholly_below_tabled offsets marks t i l b),
        all_same (length offsets) (wholly_above by_table b) (wholly_above by_faces b) (λ i l. wholly_above_tabled offsets marks t i l b),
      )
      (named_same (wholly_below by_faces b) x (λ f m. OutsideWithBranch s f m) (ap (cond (all_to (length offsets) (wholly_above by_faces b)) (InsideWithBranch s)) e))

  pub reason_tabled : (f : ℕ) (at : ℕ → ℕ → ℤ) (p a j : ℕ) (run : List ℕ) (b : Box)
      → reason_in f by_table at p a j run b ≡ reason_in f by_faces at p a j run b
  unfolding reason_in
  reason_tabled zero at p a j run b = refl
  reason_tabled (suc f) at p a j [] b = refl
  reason_tabled (suc f) at p a j (x ∷ xs) b =
      let run : List ℕ = x ∷ xs in
      let s : ℕ = axis k j in
      let z : ℤ = at (node run) s in
      branch_same (at p) b (a + middle (length run))
      (rw (
        own_same (at p) (a + middle (length run)),
        reason_tabled f at p a (suc j) (lefts run) (left_box b s z),
        reason_tabled f at p (a + (middle (length run) + 1)) (suc j) (rights run) (right_box b s z),
      ))
