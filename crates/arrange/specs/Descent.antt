-- The checker's answer on a branch: its numbers are all allowed within the branch's bounds, and it is a tree.
-- Where the node is allowed, this is the same answer on the left branch and on the right one, each within its own bounds.
use Rattle.std.specs.Prelude.{◌≡◌, Bool, ◌&&◌, ℕ, suc, ◌+◌, ◌≤◌, ◌<◌, length, get_or, set, ℤ, ltb}
use Rattle.std.proofs.Math.Path.{refl, sym}
use Rattle.std.proofs.Common.{◌∙◌, mod-eq_of_lt, arith}
use Rattle.std.proofs.Math.Bool.{true, false}
use mathlib.Core.List.{List, [], ◌∷◌}
use Rattle.terms.specs.Tests.{every}
use Rattle.terms.specs.Before.{before}
use Rattle.terms.specs.Run.{axis, node, lefts, rights}
use Rattle.terms.specs.Tree.{tree_run}
use Rattle.theory.specs.Flags.{contra, same_test, and_true, true_and, and_yes}
use Rattle.theory.specs.Counting.{every_at, at_every}
use Rattle.theory.specs.RunParts.{Parts, parts, of_parts, left_length, right_length}
use Rattle.theory.specs.RunTests.{every_part, part_every}
use Rattle.theory.specs.TreeFuel.{tree_fuel}
use Rattle.theory.specs.TreeDepth.{tree_depth}
use Rattle.arrange.specs.Allowed.{is_allowed, Allowed, allowed, of_allowed, all_three, Ordered, left_allowed, allowed_left, right_allowed, allowed_right}

-- A test that says just what two others say together, over a run: one of the two as a whole, the other slot by slot.
module _ (test one other : ℕ → Bool) (run : List ℕ) where
  every_one : ((p : ℕ) → test p ≡ true → (one p ≡ true) × (other p ≡ true)) → every test run ≡ true
      → (every one run ≡ true) × ((i : ℕ) → i < length run → other (get_or run i 0) ≡ true)
  every_one says e = (
    at_every one 0 run (λ i l. (says (get_or run i 0) (every_at test 0 run e i l)).0),
    λ i l. (says (get_or run i 0) (every_at test 0 run e i l)).1,
  )

  one_every : ((p : ℕ) → one p ≡ true → other p ≡ true → test p ≡ true) → every one run ≡ true
      → ((i : ℕ) → i < length run → other (get_or run i 0) ≡ true) → every test run ≡ true
  one_every says e each = at_every test 0 run (λ i l. says (get_or run i 0) (every_at one 0 run e i l) (each i l))

module _ (k : ℕ) (at : ℕ → ℕ → ℤ) (belongs : ℕ → Bool) (key : ℕ → ℕ → ℕ) where
  -- Every number of the run is allowed, and the run is a branch at depth j.
  unfoldable pub is_branch : List ℕ → List ℕ → ℕ → List ℕ → Bool
  is_branch least end j run = every (is_allowed k belongs key least end) run && tree_run (length run) k at j run

  -- The node of the run x ∷ xs is allowed and splits on dimension s; n is the depth of its branches as far as dimensions go.
  module _ (ordered : Ordered k at belongs key) (least end : List ℕ) (s n x : ℕ) (xs : List ℕ)
      (l : s < k) (m : s < length least) (o : s < length end) (e : axis k n ≡ axis k (suc s))
      (w : is_allowed k belongs key least end (node (x ∷ xs)) ≡ true) where
    -- The number in the node's slot; what is allowed in the run, in its left branch and in its right branch.
    abbrev v : ℕ
    v = node (x ∷ xs)

    abbrev within : ℕ → Bool
    within = is_allowed k belongs key least end

    abbrev left : ℕ → Bool
    left = is_allowed k belongs key least (set end s (key s v))

    abbrev right : ℕ → Bool
    right = is_allowed k belongs key (set least s (key s v + 1)) end

    node_allowed : Allowed k belongs key least end v
    node_allowed = allowed k belongs key least end v w

    to_left : (p : ℕ) → within p ≡ true → before at (axis k s) p v ≡ true → left p ≡ true
    to_left p a b =
        let u = left_allowed k at belongs key ordered least end s v l node_allowed p o in
        of_allowed k belongs key least (set end s (key s v)) p (u (allowed k belongs key least end p a) (rw (mod-eq_of_lt l) at b))

    to_right : (p : ℕ) → within p ≡ true → before at (axis k s) v p ≡ true → right p ≡ true
    to_right p a b =
        let u = right_allowed k at belongs key ordered least end s v l node_allowed p m in
        of_allowed k belongs key (set least s (key s v + 1)) end p (u (allowed k belongs key least end p a) (rw (mod-eq_of_lt l) at b))

    of_left : (p : ℕ) → left p ≡ true → (within p ≡ true) × (before at (axis k s) p v ≡ true)
    of_left p a =
        let u = allowed k belongs key least (set end s (key s v)) p a in
        let q = allowed_left k at belongs key ordered least end s v l node_allowed p o u in
        (of_allowed k belongs key least end p q.0, rw (mod-eq_of_lt l) q.1)

    of_right : (p : ℕ) → right p ≡ true → (within p ≡ true) × (before at (axis k s) v p ≡ true)
    of_right p a =
        let u = allowed k belongs key (set least s (key s v + 1)) end p a in
        let q = allowed_right k at belongs key ordered least end s v l node_allowed p m u in
        (of_allowed k belongs key least end p q.0, rw (mod-eq_of_lt l) q.1)

    -- A branch is a tree at its own depth just where it is one as the run's tree asks.
    deeper : (part : List ℕ) → length part ≤ length xs → tree_run (length part) k at n part ≡ tree_run (length xs) k at (suc s) part
    deeper part h = tree_fuel (length part) (length xs) k at n part (omega arith) h ∙ tree_depth (length xs) k at n (suc s) part e

    left_deeper : tree_run (length (lefts (x ∷ xs))) k at n (lefts (x ∷ xs)) ≡ tree_run (length xs) k at (suc s) (lefts (x ∷ xs))
    left_deeper = deeper (lefts (x ∷ xs)) (omega (arith, left_length (x ∷ xs)))

    right_deeper : tree_run (length (rights (x ∷ xs))) k at n (rights (x ∷ xs)) ≡ tree_run (length xs) k at (suc s) (rights (x ∷ xs))
    right_deeper = deeper (rights (x ∷ xs)) (omega (arith, right_length (x ∷ xs)))

    -- The answers on the two branches.
    abbrev both : Bool
    both = is_branch least (set end s (key s v)) n (lefts (x ∷ xs)) && is_branch (set least s (key s v + 1)) end n (rights (x ∷ xs))

    to_both : is_branch least end s (x ∷ xs) ≡ true → both ≡ true
    unfolding is_branch
    to_both t =
        let c = and_true (every within (x ∷ xs)) t in
        let a = every_part within x xs c.0 in
        let q : Parts (length xs) k at s (x ∷ xs) = parts x xs c.1 in
        let on_left = one_every left within (λ p. before at (axis k s) p v) (lefts (x ∷ xs)) to_left a.left q.before_node in
        let on_right = one_every right within (before at (axis k s) v) (rights (x ∷ xs)) to_right a.right q.after_node in
        true_and (true_and on_left (left_deeper ∙ q.left)) (true_and on_right (right_deeper ∙ q.right))

    of_both : both ≡ true → is_branch least end s (x ∷ xs) ≡ true
    unfolding is_branch
    of_both t =
        let c = and_true (every left (lefts (x ∷ xs)) && tree_run (length (lefts (x ∷ xs))) k at n (lefts (x ∷ xs))) t in
        let a = and_true (every left (lefts (x ∷ xs))) c.0 in
        let b = and_true (every right (rights (x ∷ xs))) c.1 in
        let on_left = every_one left within (λ p. before at (axis k s) p v) (lefts (x ∷ xs)) of_left a.0 in
        let on_right = every_one right within (before at (axis k s) v) (rights (x ∷ xs)) of_right b.0 in
        true_and
        (part_every within x xs (record { left = on_left.0; middle = w; right = on_right.0 }))
        (of_parts x xs (record {
          before_node = on_left.1;
          after_node = on_right.1;
          left = sym left_deeper ∙ a.1;
          right = sym right_deeper ∙ b.1;
        }))

    answers : is_branch least end s (x ∷ xs) ≡ both
    answers = same_test to_both of_both

  -- How the descent goes: a run of three slots at most, a node that is not allowed, and a node with its two branches.
  pub empty_branch : (least end : List ℕ) (s : ℕ) (run : List ℕ) → length run ≡ 0 → is_branch least end s run ≡ true
  unfolding is_branch every tree_run
  empty_branch least end s [] z = refl
  empty_branch least end s (x ∷ xs) z = absurd (omega arith)

  pub lone_slot : (least end : List ℕ) (s : ℕ) (run : List ℕ) → length run ≡ 1
      → is_allowed k belongs key least end (get_or run 0 0) ≡ is_branch least end s run
  unfolding is_branch every tree_run
  lone_slot least end s [] z = absurd (omega arith)
  lone_slot least end s (x ∷ []) z = go (is_allowed k belongs key least end x)
    where
      go : (t : Bool) → t ≡ t && true && true
      go true = refl
      go false = refl
  lone_slot least end s (x ∷ y ∷ ys) z = absurd (omega arith)

  -- Branches of one slot or none add nothing to what the node asks.
  plain : (t u : Bool) → ((t && true) && (u && true)) && true && true ≡ t && u
  plain true true = refl
  plain true false = refl
  plain false u = refl

  -- A node with a slot before it, and with one on either side: the numbers are allowed, and their keys rise.
  module _ (ordered : Ordered k at belongs key) (least end : List ℕ) (s : ℕ) (l : s < k) where
    abbrev test : ℕ → Bool
    test = is_allowed k belongs key least end

    -- Of two numbers that are allowed, the keys tell which is before the other.
    by_keys : (p q : ℕ) → test p ≡ true → test q ≡ true → before at (axis k s) p q ≡ ltb (key s p) (key s q)
    by_keys p q a b = rw (mod-eq_of_lt l)
        (ordered s p q l (allowed k belongs key least end p a).belonging (allowed k belongs key least end q b).belonging)

    pub two_slots : (run : List ℕ) → length run ≡ 2
        → (let q = get_or run 0 0 in
        let p = get_or run 1 0 in
        is_branch least end s run ≡ (all_three test p q q && ltb (key s q) (key s p)))
    unfolding is_branch every tree_run
    two_slots [] z = absurd (omega arith)
    two_slots (q ∷ []) z = absurd (omega arith)
    two_slots (q ∷ p ∷ []) z = go (test q) (test p) (by_keys q p)
      where
        go : (a b : Bool) {t u : Bool} → (a ≡ true → b ≡ true → t ≡ u)
            → (a && (b && true)) && (((t && true) && true) && true && true) ≡ (b && a && a) && u
        go true true {t} e = plain t true ∙ and_yes t refl ∙ e refl refl
        go true false e = refl
        go false true e = refl
        go false false e = refl
    two_slots (q ∷ p ∷ r ∷ rs) z = absurd (omega arith)

    pub three_slots : (run : List ℕ) → length run ≡ 3
        → (let q = get_or run 0 0 in
        let p = get_or run 1 0 in
        let r = get_or run 2 0 in
        is_branch least end s run ≡ (all_three test p q r && (ltb (key s q) (key s p) && ltb (key s p) (key s r))))
    unfolding is_branch every tree_run
    three_slots [] z = absurd (omega arith)
    three_slots (q ∷ []) z = absurd (omega arith)
    three_slots (q ∷ p ∷ []) z = absurd (omega arith)
    three_slots (q ∷ p ∷ r ∷ []) z = go (test q) (test p) (test r) (by_keys q p) (by_keys p r)
      where
        go : (a b c : Bool) {t u v w : Bool} → (a ≡ true → b ≡ true → t ≡ u) → (b ≡ true → c ≡ true → v ≡ w)
            → (a && (b && (c && true))) && (((t && true) && (v && true)) && true && true) ≡ (b && a && c) && (u && w)
        go true true true {t} {v} e f = rw (← e refl refl, ← f refl refl) (plain t v)
        go true true false e f = refl
        go true false c e f = refl
        go false true c e f = refl
        go false false c e f = refl
    three_slots (q ∷ p ∷ r ∷ x ∷ xs) z = absurd (omega arith)

  pub refused_node : (least end : List ℕ) (s : ℕ) (run : List ℕ) → 0 < length run → is_allowed k belongs key least end (node run) ≡ false
      → is_branch least end s run ≡ false
  unfolding is_branch
  refused_node least end s [] z = absurd (omega arith)
  refused_node least end s (x ∷ xs) z =
      contra (λ t. (every_part _ x xs (and_true (every (is_allowed k belongs key least end) (x ∷ xs)) t).0).middle)

  pub two_branches : Ordered k at belongs key → (least end : List ℕ) (s n : ℕ) (run : List ℕ) → 0 < length run
      → s < k → s < length least → s < length end → axis k n ≡ axis k (suc s) → is_allowed k belongs key least end (node run) ≡ true
      → is_branch least end s run
      ≡ (is_branch least (set end s (key s (node run))) n (lefts run) && is_branch (set least s (key s (node run) + 1)) end n (rights run))
  two_branches ordered least end s n [] z l m o e w = absurd (omega arith)
  two_branches ordered least end s n (x ∷ xs) z l m o e w = answers ordered least end s n x xs l m o e w
