-- What comes before a tree's node is its left branch, and what comes after it its right one: counted by any test.
use Rattle.std.specs.Prelude.{◌≡◌, Bool, true, false, ◌&&◌, List, ◌∷◌, ℕ, ◌<◌, length, get_or, ℤ}
use Rattle.std.proofs.Common.{ap, ◌∙◌, arith}
use Rattle.terms.specs.Tests.{bit, count}
use Rattle.terms.specs.Before.{before}
use Rattle.terms.specs.Run.{axis, node, lefts, rights}
use Rattle.theory.specs.Flags.{and_yes, and_no}
use Rattle.theory.specs.Counting.{count_no, count_same}
use Rattle.theory.specs.RunParts.{Parts, count_run}
use Rattle.theory.specs.BeforeIsAnOrder.{before_asym, before_self}

-- A second test that all of a run pass changes no count, and one that none passes leaves nothing.
passed_count : (test side : ℕ → Bool) (run : List ℕ) → ((i : ℕ) → i < length run → side (get_or run i 0) ≡ true)
    → count (λ v. test v && side v) run ≡ count test run
passed_count test side run h = count_same 0 _ test run (λ i l. and_yes (test (get_or run i 0)) (h i l))

failed_count : (test side : ℕ → Bool) (run : List ℕ) → ((i : ℕ) → i < length run → side (get_or run i 0) ≡ false)
    → count (λ v. test v && side v) run ≡ 0
failed_count test side run h = count_same 0 _ (λ v. false) run (λ i l. and_no (test (get_or run i 0)) (h i l)) ∙ count_no run

module _ {f k : ℕ} {at : ℕ → ℕ → ℤ} {j x : ℕ} {xs : List ℕ} (w : Parts f k at j (x ∷ xs)) (test : ℕ → Bool) where
  -- The left branch is what comes before the node.
  pub left_count : count (λ v. test v && before at (axis k j) v (node (x ∷ xs))) (x ∷ xs) ≡ count test (lefts (x ∷ xs))
  left_count =
      let n : ℕ = node (x ∷ xs) in
      let s : ℕ = axis k j in
      omega (
        arith,
        count_run (λ v. test v && before at s v n) x xs,
        passed_count test (λ v. before at s v n) (lefts (x ∷ xs)) w.before_node,
        ap bit (and_no (test n) (before_self at s n)),
        failed_count test (λ v. before at s v n) (rights (x ∷ xs)) (λ i l. before_asym at s n _ (w.after_node i l)),
      )

  -- The right branch is what comes after the node.
  pub right_count : count (λ v. test v && before at (axis k j) (node (x ∷ xs)) v) (x ∷ xs) ≡ count test (rights (x ∷ xs))
  right_count =
      let n : ℕ = node (x ∷ xs) in
      let s : ℕ = axis k j in
      omega (
        arith,
        count_run (λ v. test v && before at s n v) x xs,
        passed_count test (before at s n) (rights (x ∷ xs)) w.after_node,
        ap bit (and_no (test n) (before_self at s n)),
        failed_count test (before at s n) (lefts (x ∷ xs)) (λ i l. before_asym at s _ n (w.before_node i l)),
      )
