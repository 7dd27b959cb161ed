-- The checker on the lent points: what its functions answer, and the answer from the root. The root's bounds leave every key in,
-- so there it is asked that all numbers belong and that the order is a tree, which is the tree where there are as many slots as numbers.
use Rattle.std.specs.Prelude.{◌≡◌, refl, Bool, true, false, ◌&&◌, ◌||◌, not, List, [], ◌∷◌, ℕ, suc, ◌+◌, ◌≤◌, ◌<◌, length, take, drop, set, replicate, ℤ, ltb}
use Rattle.std.proofs.Common.{sym, subst, ◌∙◌, arith, length-drop, get_or-drop, lt-ltb}
use Rattle.std.proofs.Math.Path.{ap}
use Rattle.std.proofs.Math.ListN.{get_or}
use Rattle.std.proofs.lemmas.List.{get_or-replicate}
use Rattle.terms.specs.Tests.{every}
use Rattle.terms.specs.Lent.{Stock}
use Rattle.terms.specs.Live.{is_live, live_count}
use Rattle.terms.specs.Points.{coord, below, point_of, belongs_to, slots_of}
use Rattle.terms.specs.Run.{middle, axis, node, lefts, rights}
use Rattle.terms.specs.Tree.{tree_run, each_once, is_tree}
use Rattle.theory.specs.Flags.{clash, same_test, and_true, true_and, or_yes}
use Rattle.theory.specs.Counting.{every_at, at_every, every_same, every_part}
use Rattle.theory.specs.Tested.{TestedPoints}
use Rattle.theory.specs.LiveNumbers.{full_live}
use Rattle.theory.specs.StockNumbers.{stock_under, stock_members}
use Rattle.theory.proofs.TreeIsDistinct.{tree_test}
use Rattle.arrange.specs.Key.{key_of, Keyed, stock_keyed, key_small, key_number, before_key}
use Rattle.arrange.specs.Allowed.{is_allowed, all_three, each_of_three, allowed, of_allowed, Ordered}
use Rattle.arrange.specs.Descent.{is_branch, two_slots, three_slots, two_branches}

-- Number p of the m belongs, with its key within the bounds on each dimension.
abbrev pub number_allowed : ℕ → ℕ → List ℤ → List ℕ → List ℕ → ℕ → Bool
number_allowed k m points least end p = is_allowed k (below m) (key_of k points) least end p

-- The same of three numbers.
abbrev pub three_allowed : ℕ → ℕ → List ℤ → List ℕ → List ℕ → ℕ → ℕ → ℕ → Bool
three_allowed k m points least end p q r = all_three (number_allowed k m points least end) p q r

-- Every number of the run is allowed, and the run is a branch whose node splits on dimension s.
abbrev pub branch_allowed : ℕ → ℕ → List ℤ → List ℕ → List ℕ → ℕ → List ℕ → Bool
branch_allowed k m points least end s run = is_branch k (coord k points) (below m) (key_of k points) least end s run

-- Those numbers of the run that are below m have a key on each dimension: they belong to numbers that have. Of the others nothing is known.
pub record RunKnown (k m : ℕ) (points : List ℤ) (run : List ℕ) : Type 0 where
  pub some : 1 ≤ k
  pub few : k ≤ 4
  pub belongs : ℕ → Bool
  pub has_key : (d p : ℕ) → d < k → belongs p ≡ true → Keyed k points d p
  pub numbers : every (λ p. not (below m p) || belongs p) run ≡ true

-- What the descent requires: a run whose numbers are known, a dimension to split on, and two bounds for each dimension.
pub record Descends (k m : ℕ) (points : List ℤ) (s : ℕ) (least end run : List ℕ) : Type 0 where
  pub known : RunKnown k m points run
  pub dimension : s < k
  pub least_size : k ≤ length least
  pub end_size : k ≤ length end

-- What is answered of the slots before the descent: yes where every number below n is live, and no where some number is not.
pub record NoneDead (n : ℕ) (live run : List ℕ) (answer : Bool) : Type 0 where
  pub yes : answer ≡ true → every (λ p. not (below n p) || is_live n live p) run ≡ true
  pub no : answer ≡ false → every (is_live n live) run ≡ false

-- Where v is n, every number below n is live, whatever the run.
pub all_none_dead : (n : ℕ) (live run : List ℕ) → live_count n live ≡ n → NoneDead n live run true
all_none_dead n live run full = record { yes = λ e. subst known (sym (full_live n live full)) (at_every _ 0 run (λ i l. either (below n (get_or run i 0)))); no = λ e. clash refl e }
  where
    known : (ℕ → Bool) → Type 0
    known belongs = every (λ p. not (below n p) || belongs p) run ≡ true

    either : (t : Bool) → not t || t ≡ true
    either true = refl
    either false = refl

-- Where every number of the run is live, that is so too.
pub live_none_dead : (n : ℕ) (live run : List ℕ) → NoneDead n live run (every (is_live n live) run)
live_none_dead n live run = record {
  yes = λ e. at_every _ 0 run (λ i l. or_yes (not (below n (get_or run i 0))) (every_at (is_live n live) 0 run e i l));
  no = λ e. e;
}

-- A run of a tested stock whose numbers below n are live is known.
abbrev pub stock_known : {s : Stock} → TestedPoints s → (run : List ℕ) → every (λ p. not (below s.n p) || belongs_to s p) run ≡ true
    → RunKnown s.k s.n s.points run
stock_known {s} tested run numbers =
    record { some = tested.some; few = tested.few; belongs = belongs_to s; has_key = stock_keyed tested; numbers = numbers }

module _ {k m : ℕ} {points : List ℤ} {run : List ℕ} (w : RunKnown k m points run) where
  -- Other numbers of the run are known too: some from its front, from its back, one, and three.
  abbrev others : (part : List ℕ) → every (λ p. not (below m p) || w.belongs p) part ≡ true → RunKnown k m points part
  others part e = record { some = w.some; few = w.few; belongs = w.belongs; has_key = w.has_key; numbers = e }

  abbrev pub known_front : (c : ℕ) → RunKnown k m points (take c run)
  known_front c = others (take c run) (every_part 0 _ 0 c run w.numbers)

  abbrev pub known_back : (a : ℕ) → RunKnown k m points (drop a run)
  known_back a = others (drop a run) (at_every _ 0 (drop a run) (λ i l.
      rw get_or-drop (every_at (λ p. not (below m p) || w.belongs p) 0 run w.numbers (a + i) (omega (arith, length-drop a run)))))

  pub known_one : (i : ℕ) → i < length run → RunKnown k m points (get_or run i 0 ∷ [])
  unfolding every
  known_one i l = others (get_or run i 0 ∷ []) (true_and (every_at _ 0 run w.numbers i l) refl)

  pub known_three : (i j h : ℕ) → i < length run → j < length run → h < length run → RunKnown k m points (get_or run i 0 ∷ get_or run j 0 ∷ get_or run h 0 ∷ [])
  unfolding every
  known_three i j h l n o = others (get_or run i 0 ∷ get_or run j 0 ∷ get_or run h 0 ∷ [])
      (true_and (every_at _ 0 run w.numbers i l) (true_and (every_at _ 0 run w.numbers j n) (true_and (every_at _ 0 run w.numbers h o) refl)))

  -- What is below m and belongs. In the run it is what is below m.
  abbrev member : ℕ → Bool
  member p = below m p && w.belongs p

  member_at : (i : ℕ) → i < length run → member (get_or run i 0) ≡ below m (get_or run i 0)
  member_at i l = go (below m (get_or run i 0)) (w.belongs (get_or run i 0)) (every_at _ 0 run w.numbers i l)
    where
      go : (s t : Bool) → not s || t ≡ true → s && t ≡ s
      go true t e = e
      go false t e = refl

  member_ordered : Ordered k (coord k points) member (key_of k points)
  member_ordered d p q l a b = before_key (w.has_key d p l (and_true (below m p) a).1) (w.has_key d q l (and_true (below m q) b).1)

  -- A number of the run that is below m has a key on each dimension, and the last 32-bit number is no key, since its lower half is no number.
  pub run_keyed : (i : ℕ) → i < length run → below m (get_or run i 0) ≡ true → (d : ℕ) → d < k → Keyed k points d (get_or run i 0)
  run_keyed i l e d h = w.has_key d (get_or run i 0) h (and_true (below m (get_or run i 0)) (member_at i l ∙ e)).1

  pub key_below_last : (i : ℕ) → i < length run → below m (get_or run i 0) ≡ true → (d : ℕ) → d < k → key_of k points d (get_or run i 0) < 4294967295
  key_below_last i l e d h =
      let q = run_keyed i l e d h in
      omega (arith, key_small q, key_number q, q.small)

  -- So in the run the same is allowed, and the same answered, of what is below m and of what belongs.
  same_allowed : (least end : List ℕ) (i : ℕ) → i < length run
      → is_allowed k member (key_of k points) least end (get_or run i 0) ≡ number_allowed k m points least end (get_or run i 0)
  unfolding is_allowed
  same_allowed least end i l = rw (member_at i l)

  same_branch : (least end : List ℕ) (s : ℕ) → is_branch k (coord k points) member (key_of k points) least end s run ≡ branch_allowed k m points least end s run
  unfolding is_branch
  same_branch least end s =
      ap (λ (t : Bool). t && tree_run (length run) k (coord k points) s run)
      (every_same 0 (is_allowed k member (key_of k points) least end) (number_allowed k m points least end) run (same_allowed least end))

  -- At the root every key is allowed: the descent from there answers whether the numbers are below m and the order is a tree.
  root_allowed : (i : ℕ) → i < length run → number_allowed k m points (replicate 4 0) (replicate 4 4294967295) (get_or run i 0) ≡ below m (get_or run i 0)
  root_allowed i l =
      let p : ℕ = get_or run i 0 in
      let four = w.few in
      same_test
      (λ e. (allowed k (below m) (key_of k points) (replicate 4 0) (replicate 4 4294967295) p e).belonging)
      (λ e. of_allowed k (below m) (key_of k points) (replicate 4 0) (replicate 4 4294967295) p (record {
        belonging = e;
        from_least = λ d h. omega (arith, get_or-replicate {A = ℕ} 4 d 0 0 (omega arith));
        below_end = λ d h. omega (arith, get_or-replicate {A = ℕ} 4 d 4294967295 0 (omega arith), key_below_last i l e d h);
      }))

  pub root_branch : branch_allowed k m points (replicate 4 0) (replicate 4 4294967295) 0 run ≡ every (below m) run && tree_run (length run) k (coord k points) 0 run
  unfolding is_branch
  root_branch =
      ap (λ (t : Bool). t && tree_run (length run) k (coord k points) 0 run)
      (every_same 0 (number_allowed k m points (replicate 4 0) (replicate 4 4294967295)) (below m) run root_allowed)

-- Of as many slots as live numbers that is whether the order is the tree of the stock.
pub root_answer : {s : Stock} → TestedPoints s → (order : List ℕ) → length order ≡ slots_of s
    → every (λ p. not (below s.n p) || belongs_to s p) order ≡ true
    → branch_allowed s.k s.n s.points (replicate 4 0) (replicate 4 4294967295) 0 order ≡ is_tree s.k (point_of s) (belongs_to s) s.n order
root_answer {s} tested order size numbers =
    root_branch known
    ∙ ap (λ (t : Bool). t && tree_run (length order) s.k (point_of s) 0 order) (every_same 0 (below s.n) (belongs_to s) order below_belongs)
    ∙ sym (tree_test s.k (point_of s) (belongs_to s) s.n order (stock_under s) (size ∙ sym (stock_members s)))
  where
    known : RunKnown s.k s.n s.points order
    known = stock_known tested order numbers

    below_belongs : (i : ℕ) → i < length order → below s.n (get_or order i 0) ≡ belongs_to s (get_or order i 0)
    below_belongs i l = same_test
        (λ e. (and_true (below s.n (get_or order i 0)) (member_at known i l ∙ e)).1)
        (λ e. lt-ltb (get_or order i 0) s.n (stock_under s (get_or order i 0) e))

-- A run with a number that does not belong is not the tree.
pub dead_no_tree : (s : Stock) (order : List ℕ) → every (belongs_to s) order ≡ false → is_tree s.k (point_of s) (belongs_to s) s.n order ≡ false
unfolding is_tree each_once
dead_no_tree s order e = rw e refl

-- Within the descent.
module _ {k m : ℕ} {points : List ℤ} {s : ℕ} {least end run : List ℕ} (w : Descends k m points s least end run) where
  -- A number of the run that is allowed is below m and has a key on the dimension to split on.
  pub allowed_below : (i : ℕ) → number_allowed k m points least end (get_or run i 0) ≡ true → below m (get_or run i 0) ≡ true
  allowed_below i a = (allowed k (below m) (key_of k points) least end (get_or run i 0) a).belonging

  pub allowed_keyed : (i : ℕ) → i < length run → number_allowed k m points least end (get_or run i 0) ≡ true → Keyed k points s (get_or run i 0)
  allowed_keyed i l a = run_keyed w.known i l (allowed_below i a) s w.dimension

  pub three_keyed : (i j h : ℕ) → i < length run → j < length run → h < length run
      → three_allowed k m points least end (get_or run i 0) (get_or run j 0) (get_or run h 0) ≡ true
      → Keyed k points s (get_or run i 0) × Keyed k points s (get_or run j 0) × Keyed k points s (get_or run h 0)
  three_keyed i j h l n o e =
      let each = each_of_three (number_allowed k m points least end) (get_or run i 0) (get_or run j 0) (get_or run h 0) e in
      (allowed_keyed i l each.first, allowed_keyed j n each.second, allowed_keyed h o each.third)

  -- The answer on a run of two slots and on one of three: the numbers are allowed, and their keys rise.
  pub on_two : length run ≡ 2
      → (let q = get_or run 0 0 in
      let p = get_or run 1 0 in
      branch_allowed k m points least end s run ≡ (three_allowed k m points least end p q q && ltb (key_of k points s q) (key_of k points s p)))
  on_two size =
      sym (same_branch w.known least end s)
      ∙ two_slots k (coord k points) (member w.known) (key_of k points) (member_ordered w.known) least end s w.dimension run size
      ∙ rw (same_allowed w.known least end 1 (omega arith), same_allowed w.known least end 0 (omega arith))

  pub on_three : length run ≡ 3
      → (let q = get_or run 0 0 in
      let p = get_or run 1 0 in
      let r = get_or run 2 0 in
      branch_allowed k m points least end s run
      ≡ (three_allowed k m points least end p q r
      && (ltb (key_of k points s q) (key_of k points s p) && ltb (key_of k points s p) (key_of k points s r))))
  on_three size =
      sym (same_branch w.known least end s)
      ∙ three_slots k (coord k points) (member w.known) (key_of k points) (member_ordered w.known) least end s w.dimension run size
      ∙ rw (
        same_allowed w.known least end 1 (omega arith),
        same_allowed w.known least end 0 (omega arith),
        same_allowed w.known least end 2 (omega arith),
      )

  -- The answer on a run whose node is allowed: that on its two branches.
  pub on_branches : (n : ℕ) → 0 < length run → axis k n ≡ axis k (suc s) → number_allowed k m points least end (node run) ≡ true
      → branch_allowed k m points least end s run
      ≡ (branch_allowed k m points least (set end s (key_of k points s (node run))) n (lefts run)
      && branch_allowed k m points (set least s (key_of k points s (node run) + 1)) end n (rights run))
  on_branches n some e a =
      let half : middle (length run) < length run = omega arith in
      sym (same_branch w.known least end s)
      ∙ two_branches
      k (coord k points) (member w.known) (key_of k points) (member_ordered w.known) least end s n run some w.dimension
      (omega (arith, w.dimension, w.least_size)) (omega (arith, w.dimension, w.end_size)) e
      (same_allowed w.known least end (middle (length run)) half ∙ a)
      ∙ rw (same_branch (known_front w.known (middle (length run))) least (set end s (key_of k points s (node run))) n)
      (rw (same_branch (known_back w.known (middle (length run) + 1)) (set least s (key_of k points s (node run) + 1)) end n))
