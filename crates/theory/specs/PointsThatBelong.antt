-- Only the points of the numbers that belong tell: where two stocks agree on those, so do their trees, their ranges and their root boxes.
use Rattle.std.specs.Prelude.{◌≡◌, Bool, ◌&&◌, length, ℤ}
use Rattle.std.proofs.Math.Path.{refl}
use Rattle.std.proofs.Common.{ap}
use Rattle.std.proofs.Math.Bool.{true, false}
use mathlib.Core.List.{List, [], ◌∷◌}
use Prim.Native.Nat.{ℕ, zero, suc, ◌≤◌, ◌<◌}
use Rattle.std.proofs.Math.Nat.{mod-lt}
use Rattle.terms.specs.Tests.{every}
use Rattle.terms.specs.Points.{is_coordinate}
use Rattle.terms.specs.Before.{before}
use Rattle.terms.specs.Run.{axis, node, lefts, rights}
use Rattle.terms.specs.Tree.{members, tree_run, each_once, is_tree}
use Rattle.terms.specs.Box.{least_from, greatest_from, root_box}
use Rattle.terms.specs.LivePoints.{members_in_range}
use Rattle.theory.specs.Flags.{and_true}
use Rattle.theory.specs.AllAndAny.{all_same}
use Rattle.theory.specs.Counting.{every_at, at_every, every_same}
use Rattle.theory.specs.RunTests.{EveryPart, every_part}
use Rattle.theory.specs.RisingNumbers.{members_belong}
use Rattle.theory.specs.EachNumberOnce.{each_once_lem}
use Rattle.theory.specs.Boxes.{Alike}

-- Two stocks' points, of k coordinates, agree on the numbers that belong.
module _ (k : ℕ) (some : 1 ≤ k) (belongs : ℕ → Bool) (at other : ℕ → ℕ → ℤ)
    (same : (p d : ℕ) → belongs p ≡ true → d < k → at p d ≡ other p d) where
  pub same_before : (j p q : ℕ) → belongs p ≡ true → belongs q ≡ true → before at (axis k j) p q ≡ before other (axis k j) p q
  unfolding before
  same_before j p q a b =
      let l : axis k j < k = mod-lt j some in
      rw (same p (axis k j) a l, same q (axis k j) b l)

  same_run : (f j : ℕ) (run : List ℕ) → every belongs run ≡ true → tree_run f k at j run ≡ tree_run f k other j run
  unfolding tree_run
  same_run zero j [] e = refl
  same_run zero j (x ∷ xs) e = refl
  same_run (suc f) j [] e = refl
  same_run (suc f) j (x ∷ xs) e =
      let w : EveryPart belongs (x ∷ xs) = every_part belongs x xs e in
      let v : ℕ = node (x ∷ xs) in
      let left = every_same 0 (λ p. before at (axis k j) p v) (λ p. before other (axis k j) p v) (lefts (x ∷ xs))
      (λ i l. same_before j _ v (every_at belongs 0 (lefts (x ∷ xs)) w.left i l) w.middle) in
      let right = every_same 0 (before at (axis k j) v) (before other (axis k j) v) (rights (x ∷ xs))
      (λ i l. same_before j v _ w.middle (every_at belongs 0 (rights (x ∷ xs)) w.right i l)) in
      rw (left, right, same_run f (suc j) (lefts (x ∷ xs)) w.left, same_run f (suc j) (rights (x ∷ xs)) w.right)

  -- "No answer depends on a dead number's coordinates": whether a run is the tree does not.
  pub same_tree : (m : ℕ) (run : List ℕ) → is_tree k at belongs m run ≡ is_tree k other belongs m run
  unfolding is_tree
  same_tree m run = go (each_once belongs m run) refl
    where
      go : (t : Bool) → each_once belongs m run ≡ t → t && tree_run (length run) k at 0 run ≡ t && tree_run (length run) k other 0 run
      go true e = same_run (length run) 0 run (at_every belongs 0 run (each_once_lem belongs m e).belong)
      go false e = refl

  -- "and 5 passes over them"
  pub same_in_range : (m : ℕ) → members_in_range k at belongs m ≡ members_in_range k other belongs m
  same_in_range m = every_same 0 _ _ (members belongs m) (λ i l.
      all_same k _ _ (λ d h. ap is_coordinate (same _ d (every_at belongs 0 (members belongs m) (members_belong belongs m) i l) h)))

  -- The root box of numbers that belong.
  same_least : (d : ℕ) → d < k → (run : List ℕ) → every belongs run ≡ true → {a b : ℤ} → a ≡ b
      → least_from (λ p. at p d) a run ≡ least_from (λ p. other p d) b run
  unfolding least_from every
  same_least d l [] e s = s
  same_least d l (p ∷ run) e s = let w = and_true (belongs p) e in same_least d l run w.1 (rw (s, same p d w.0 l))

  same_greatest : (d : ℕ) → d < k → (run : List ℕ) → every belongs run ≡ true → {a b : ℤ} → a ≡ b
      → greatest_from (λ p. at p d) a run ≡ greatest_from (λ p. other p d) b run
  unfolding greatest_from every
  same_greatest d l [] e s = s
  same_greatest d l (p ∷ run) e s = let w = and_true (belongs p) e in same_greatest d l run w.1 (rw (s, same p d w.0 l))

  pub same_root : (run : List ℕ) → every belongs run ≡ true → Alike k (root_box at run) (root_box other run)
  unfolding root_box every
  same_root [] e = record { lows = λ d l. refl; highs = λ d l. refl }
  same_root (p ∷ run) e =
      let w = and_true (belongs p) e in
      record { lows = λ d l. same_least d l run w.1 (same p d w.0 l); highs = λ d l. same_greatest d l run w.1 (same p d w.0 l) }
