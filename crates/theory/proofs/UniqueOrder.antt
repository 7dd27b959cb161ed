-- Points and ties leave one order: two trees of the Same numbers are one run.
-- What comes before a tree's node is its left branch, so two nodes, one before the other, would have unlike counts before them. The nodes then
-- agree, each branch of one tree is what comes before or after the node, and the branches agree in turn.
use Rattle.std.specs.Prelude.{◌≡◌, refl, Bool, true, false, List, [], ◌∷◌, ℕ, zero, suc, ◌+◌, ◌≤◌, length, ℤ, eqb}
use Rattle.std.proofs.Common.{sym, ap, ◌∙◌, arith, eq-eqb, eqb-true}
use Rattle.terms.specs.Tests.{bit, count}
use Rattle.terms.specs.Lent.{Stock, Order}
use Rattle.terms.specs.Points.{point_of, belongs_to}
use Rattle.terms.specs.Before.{before}
use Rattle.terms.specs.Run.{middle, axis, node, lefts, rights}
use Rattle.terms.specs.Tree.{tree_run, each_once, is_tree, shelf_run, is_shelf}
use Rattle.theory.specs.Flags.{clash, and_true}
use Rattle.theory.specs.Counting.{Same, same_sym, same_length, count_yes, count_both_le}
use Rattle.theory.specs.RunParts.{Parts, parts, left_length, whole_run, count_run}
use Rattle.theory.specs.BeforeIsAnOrder.{before_trans, before_self, before_total}
use Rattle.theory.specs.EachNumberOnce.{BelongBelow, each_same}
use Rattle.theory.specs.StockNumbers.{stock_under}
use Rattle.theory.specs.UniqueOrder.{left_count, right_count}

-- As many numbers come before the node as the left branch has slots.
node_count : {f k : ℕ} {at : ℕ → ℕ → ℤ} {j x : ℕ} {xs : List ℕ} → Parts f k at j (x ∷ xs)
    → count (λ v. before at (axis k j) v (node (x ∷ xs))) (x ∷ xs) ≡ middle (length (x ∷ xs))
node_count {x = x} {xs} w = left_count w (λ v. true) ∙ count_yes (lefts (x ∷ xs)) ∙ left_length (x ∷ xs)

-- Where m comes before n, all that comes before m comes before n, and so does m.
more_before : (at : ℕ → ℕ → ℤ) (s m n : ℕ) → before at s m n ≡ true → (v : ℕ) → bit (before at s v m) + bit (eqb m v) ≤ bit (before at s v n)
more_before at s m n e v = go (before at s v m) (eqb m v) refl refl
  where
    go : (t u : Bool) → before at s v m ≡ t → eqb m v ≡ u → bit t + bit u ≤ bit (before at s v n)
    go true true a b = let z : m ≡ v = eqb-true m v b in clash (rw (← z) at a) (before_self at s m)
    go true false a b = rw (before_trans at s v m n a e) (omega arith)
    go false true a b = let z : m ≡ v = eqb-true m v b in rw (← z, e) (omega arith)
    go false false a b = omega arith

module _ {f e k : ℕ} {at : ℕ → ℕ → ℤ} {j x y : ℕ} {xs ys : List ℕ} where
  -- Of two trees of the Same numbers neither's node comes before the other's: the counts before them are alike.
  not_before : Parts f k at j (x ∷ xs) → Parts e k at j (y ∷ ys) → Same (x ∷ xs) (y ∷ ys)
      → before at (axis k j) (node (x ∷ xs)) (node (y ∷ ys)) ≡ false
  not_before w u same = go (before at (axis k j) (node (x ∷ xs)) (node (y ∷ ys))) refl
    where
      go : (t : Bool) → before at (axis k j) (node (x ∷ xs)) (node (y ∷ ys)) ≡ t → t ≡ false
      go true b =
          let s : ℕ = axis k j in
          let m : ℕ = node (x ∷ xs) in
          let n : ℕ = node (y ∷ ys) in
          absurd (omega (
            arith,
            same_length same,
            count_both_le (λ v. before at s v m) (eqb m) (λ v. before at s v n) (x ∷ xs) (more_before at s m n b),
            node_count w,
            node_count u,
            same.counts (λ v. before at s v n),
            count_run (eqb m) x xs,
            ap bit (eq-eqb m m refl),
          ))
      go false b = refl

-- The nodes agree.
one_node : {f e k : ℕ} {at : ℕ → ℕ → ℤ} {j x y : ℕ} {xs ys : List ℕ} → Parts f k at j (x ∷ xs) → Parts e k at j (y ∷ ys)
    → Same (x ∷ xs) (y ∷ ys) → node (x ∷ xs) ≡ node (y ∷ ys)
one_node {k = k} {at} {j} w u same = before_total at (axis k j) _ _ (not_before w u same) (not_before u w (same_sym same))

-- Two branches at one depth that hold the Same numbers are one run, whatever bounds their descents.
pub one_run : (f e k : ℕ) (at : ℕ → ℕ → ℤ) (j : ℕ) (xs ys : List ℕ) → tree_run f k at j xs ≡ true → tree_run e k at j ys ≡ true → Same xs ys → xs ≡ ys
unfolding tree_run
one_run zero e k at j [] [] t u same = refl
one_run zero e k at j [] (y ∷ ys) t u same = absurd (omega (arith, same_length same))
one_run zero e k at j (x ∷ xs) ys t u same = clash t refl
one_run (suc f) zero k at j [] [] t u same = refl
one_run (suc f) zero k at j (x ∷ xs) [] t u same = absurd (omega (arith, same_length same))
one_run (suc f) zero k at j xs (y ∷ ys) t u same = clash u refl
one_run (suc f) (suc e) k at j [] [] t u same = refl
one_run (suc f) (suc e) k at j [] (y ∷ ys) t u same = absurd (omega (arith, same_length same))
one_run (suc f) (suc e) k at j (x ∷ xs) [] t u same = absurd (omega (arith, same_length same))
one_run (suc f) (suc e) k at j (x ∷ xs) (y ∷ ys) t u same =
    let w : Parts f k at j (x ∷ xs) = parts x xs t in
    let v : Parts e k at j (y ∷ ys) = parts y ys u in
    let m : node (x ∷ xs) ≡ node (y ∷ ys) = one_node w v same in
    let l : lefts (x ∷ xs) ≡ lefts (y ∷ ys) = one_run f e k at (suc j) _ _ w.left v.left
    (record { counts = λ test. sym (left_count w test) ∙ rw m (same.counts _) ∙ left_count v test }) in
    let r : rights (x ∷ xs) ≡ rights (y ∷ ys) = one_run f e k at (suc j) _ _ w.right v.right
    (record { counts = λ test. sym (right_count w test) ∙ rw m (same.counts _) ∙ right_count v test }) in
    whole_run x xs ∙ (cc) ∙ sym (whole_run y ys)

-- "Points and ties leave exactly one such order": two orders that are the tree of the same numbers are one, so there is at most one. That there is at
-- least one follows from the arrange call, which is done for any points that pass its tests and then leaves such an order.
pub one_tree : (k : ℕ) (at : ℕ → ℕ → ℤ) (belongs : ℕ → Bool) (m : ℕ) (xs ys : List ℕ) → BelongBelow belongs m
    → is_tree k at belongs m xs ≡ true → is_tree k at belongs m ys ≡ true → xs ≡ ys
unfolding is_tree
one_tree k at belongs m xs ys under a b =
    let p = and_true (each_once belongs m xs) a in
    let q = and_true (each_once belongs m ys) b in
    one_run (length xs) (length ys) k at 0 xs ys p.1 q.1 (each_same belongs m under p.0 q.0)

pub one_shelf : (s : Stock) (o q : Order) → is_shelf s o ≡ true → is_shelf s q ≡ true → shelf_run s o ≡ shelf_run s q
one_shelf s o q a b = one_tree s.k (point_of s) (belongs_to s) s.n (shelf_run s o) (shelf_run s q) (stock_under s) a b
