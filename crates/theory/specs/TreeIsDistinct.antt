-- A tree holds no number twice.
-- A number of the left branch comes before the node and one of the right branch after it, so no number stands in two of the three parts.
use Rattle.std.specs.Prelude.{◌≡◌, refl, Bool, true, false, List, [], ◌∷◌, ℕ, zero, suc, ◌≤◌, ℤ, eqb}
use Rattle.std.proofs.Common.{ap, arith, ne_eqb}
use Rattle.terms.specs.Tests.{bit, count}
use Rattle.terms.specs.Before.{before}
use Rattle.terms.specs.Run.{axis, node, lefts, rights}
use Rattle.terms.specs.Tree.{tree_run}
use Rattle.theory.specs.Flags.{clash}
use Rattle.theory.specs.Counting.{Distinct, at_every, bit_le}
use Rattle.theory.specs.RunParts.{Parts, parts, count_run}
use Rattle.theory.specs.BeforeIsAnOrder.{before_asym, before_self}
use Rattle.theory.specs.SameByNumber.{count_none}

module _ {f k : ℕ} {at : ℕ → ℕ → ℤ} {j x : ℕ} {xs : List ℕ} (w : Parts f k at j (x ∷ xs)) (v : ℕ) where
  abbrev n : ℕ
  n = node (x ∷ xs)

  abbrev s : ℕ
  s = axis k j

  not_left : before at s v n ≡ false → count (eqb v) (lefts (x ∷ xs)) ≡ 0
  not_left e = count_none (λ p. before at s p n) (lefts (x ∷ xs)) v (at_every _ 0 (lefts (x ∷ xs)) w.before_node) e

  not_right : before at s n v ≡ false → count (eqb v) (rights (x ∷ xs)) ≡ 0
  not_right e = count_none (before at s n) (rights (x ∷ xs)) v (at_every _ 0 (rights (x ∷ xs)) w.after_node) e

  -- A number that differs from the node.
  not_node : (v ≡ n → ⊥) → bit (eqb v n) ≡ 0
  not_node e = ap bit (ne_eqb v n e)

  once_in_parts : count (eqb v) (lefts (x ∷ xs)) ≤ 1 → count (eqb v) (rights (x ∷ xs)) ≤ 1 → count (eqb v) (x ∷ xs) ≤ 1
  once_in_parts l r = go (before at s v n) (before at s n v) refl refl
    where
      go : (t u : Bool) → before at s v n ≡ t → before at s n v ≡ u → count (eqb v) (x ∷ xs) ≤ 1
      go true u a b = omega (
        arith,
        count_run (eqb v) x xs,
        not_right (before_asym at s v n a),
        not_node (λ z. clash (rw z at a) (before_self at s n)),
      )
      go false true a b = omega (arith, count_run (eqb v) x xs, not_left a, not_node (λ z. clash (rw z at b) (before_self at s n)))
      go false false a b = omega (arith, count_run (eqb v) x xs, not_left a, not_right b, bit_le (eqb v n))

-- "Accepting an order with a number twice" is shut out by the tree itself.
pub tree_distinct : (f k : ℕ) (at : ℕ → ℕ → ℤ) (j : ℕ) (run : List ℕ) → tree_run f k at j run ≡ true → Distinct run
unfolding tree_run count
tree_distinct zero k at j [] t = record { once = λ v. omega arith }
tree_distinct zero k at j (x ∷ xs) t = clash t refl
tree_distinct (suc f) k at j [] t = record { once = λ v. omega arith }
tree_distinct (suc f) k at j (x ∷ xs) t =
    let w : Parts f k at j (x ∷ xs) = parts x xs t in
    let l : Distinct (lefts (x ∷ xs)) = tree_distinct f k at (suc j) (lefts (x ∷ xs)) w.left in
    let r : Distinct (rights (x ∷ xs)) = tree_distinct f k at (suc j) (rights (x ∷ xs)) w.right in
    record { once = λ v. once_in_parts w v (l.once v) (r.once v) }
