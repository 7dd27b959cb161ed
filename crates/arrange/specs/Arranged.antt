-- What arranging a run ensures, and how it is put together: the node is placed, and each half is arranged as a part of the run.
-- A part that comes back in another order keeps its place beside the node, since its numbers are the same.
use Rattle.std.specs.Prelude.{◌≡◌, refl, Bool, true, List, [], ◌∷◌, ◌++◌, ℕ, suc, ◌+◌, ◌-◌, ◌≤◌, ◌<◌, length, get_or, take, drop, ℤ}
use Rattle.std.proofs.Common.{sym, ◌∙◌, append_assoc, append-nil, mod-eq_of_lt, add-one, arith, length-append, length-take, length-drop, drop_of_length-le, take-append-drop, drop-cons, take_at, get_or-take, get_or-drop, take_all, length-take-le}
use Rattle.std.proofs.Math.Seq.{split_at, take-append-add, drop-append-add}
use Rattle.std.proofs.lemmas.List.{get_or_at}
use Rattle.terms.specs.Tests.{every}
use Rattle.terms.specs.Lent.{Stock}
use Rattle.terms.specs.Points.{belongs_to}
use Rattle.terms.specs.Before.{before}
use Rattle.terms.specs.Run.{middle, axis, node, lefts, rights}
use Rattle.terms.specs.Tree.{tree_run, members, is_tree}
use Rattle.theory.specs.Counting.{Same, same_refl, same_trans, same_front, same_part, same_length, same_every, Distinct, same_distinct, distinct_append, every_at, at_every}
use Rattle.theory.specs.Flags.{true_and}
use Rattle.theory.specs.Tested.{TestedPoints}
use Rattle.theory.specs.RisingNumbers.{members_belong, members_few}
use Rattle.theory.specs.EachNumberOnce.{members_each, each_distinct}
use Rattle.theory.specs.StockNumbers.{stock_under}
use Rattle.theory.specs.RunParts.{Parts, of_parts}
use Rattle.theory.specs.TreeFuel.{tree_fuel}
use Rattle.theory.specs.TreeDepth.{tree_depth, next_depth}
use Rattle.arrange.specs.Key.{stock_keyed}
use Rattle.arrange.specs.Placed.{KeyedRun, Placed}

-- What arranging asks of a run: its numbers have keys on dimension s, and none stands twice.
pub record Arrangeable (k : ℕ) (points : List ℤ) (s : ℕ) (run : List ℕ) : Type 0 where
  pub keyed : KeyedRun k points s run
  pub distinct : Distinct run
  pub few : length run ≤ 65535

-- ys is xs in another order, and the branch of a node that splits on dimension s.
pub record Arranged (k : ℕ) (at : ℕ → ℕ → ℤ) (s : ℕ) (xs ys : List ℕ) : Type 0 where
  pub same : Same ys xs
  pub tree : tree_run (length ys) k at s ys ≡ true

-- A run of one slot or none is a branch.
tree_short : (k : ℕ) (at : ℕ → ℕ → ℤ) (s : ℕ) (run : List ℕ) → length run < 2 → tree_run (length run) k at s run ≡ true
unfolding tree_run every
tree_short k at s [] h = refl
tree_short k at s (x ∷ []) h = refl
tree_short k at s (x ∷ y ∷ run) h = absurd (omega arith)

pub arranged_short : (k : ℕ) (at : ℕ → ℕ → ℤ) (s : ℕ) (run : List ℕ) → length run < 2 → Arranged k at s run run
arranged_short k at s run h = record { same = same_refl; tree = tree_short k at s run h }

-- A run that is not empty is a tree by its parts.
tree_parts : {f k : ℕ} {at : ℕ → ℕ → ℤ} {j : ℕ} (run : List ℕ) → length run ≡ suc f → Parts f k at j run
    → tree_run (length run) k at j run ≡ true
tree_parts [] h p = absurd (omega arith)
tree_parts {f} (x ∷ run) h p = rw h (of_parts x run p)

-- What stands after a number in the middle.
drop_past : (l : List ℕ) (x : ℕ) (r : List ℕ) (m : ℕ) → length l ≡ m → drop (m + 1) (l ++ x ∷ r) ≡ r
drop_past l x r m e = rw (← e) (drop-append-add l (x ∷ r) 1)

take_past : (l : List ℕ) (x : ℕ) (r : List ℕ) (m : ℕ) → length l ≡ m → take (m + 1) (l ++ x ∷ r) ≡ l ++ (x ∷ [])
take_past l x r m e = rw (← e) (take-append-add l (x ∷ r) 1)

-- A run made of a node and two branches, whose nodes split on the dimension after s.
module _ (k : ℕ) (at : ℕ → ℕ → ℤ) (s n : ℕ) (l : List ℕ) (x : ℕ) (r : List ℕ) (dimension : s < k) (next : n ≡ axis k (s + 1)) where
  deeper : (f : ℕ) (part : List ℕ) → length part ≤ f → tree_run (length part) k at n part ≡ true → tree_run f k at (suc s) part ≡ true
  deeper f part h t =
      tree_fuel f (length part) k at (suc s) part h (omega arith) ∙ tree_depth (length part) k at (suc s) n part (sym (next_depth k s n next)) ∙ t

  pub tree_made : length l ≡ middle (length (l ++ x ∷ r)) → every (λ p. before at s p x) l ≡ true → every (λ p. before at s x p) r ≡ true
      → tree_run (length l) k at n l ≡ true → tree_run (length r) k at n r ≡ true → tree_run (length (l ++ x ∷ r)) k at s (l ++ x ∷ r) ≡ true
  tree_made e a b t u =
      let run : List ℕ = l ++ x ∷ r in
      let size : length run ≡ suc (length l + length r) = length-append l (x ∷ r) ∙ omega arith in
      let pl : lefts run ≡ l = take_at l (x ∷ r) (middle (length run)) e in
      let pr : rights run ≡ r = drop_past l x r (middle (length run)) e in
      let px : node run ≡ x = get_or_at l x r 0 (middle (length run)) e in
      let ps : axis k s ≡ s = mod-eq_of_lt dimension in
      tree_parts run size (record {
        before_node = rw (pl, px, ps) (every_at (λ p. before at s p x) 0 l a);
        after_node = rw (pr, px, ps) (every_at (λ p. before at s x p) 0 r b);
        left = rw pl (deeper (length l + length r) l (omega arith) t);
        right = rw pr (deeper (length l + length r) r (omega arith) u);
      })

-- The run with its number at the place m, once the part before that came back as l, and then the part after it as r.
module _ (ys l : List ℕ) (m : ℕ) (h : m < length ys) (e : length l ≡ m) where
  -- The run after the first part came back.
  abbrev pub fronted : List ℕ
  fronted = l ++ drop m ys

  fronted_eq : fronted ≡ l ++ get_or ys m 0 ∷ drop (m + 1) ys
  fronted_eq = rw (add-one, drop-cons ys m 0)

  fronted_length : length fronted ≡ length ys
  fronted_length = omega (arith, length-append l (drop m ys), length-drop m ys)

  pub after_eq : take (length fronted - (m + 1)) (drop (m + 1) fronted) ≡ drop (m + 1) ys
  after_eq =
      let d : drop (m + 1) fronted ≡ drop (m + 1) ys = rw fronted_eq (drop_past l (get_or ys m 0) (drop (m + 1) ys) m e) in
      rw d (take_all (length fronted - (m + 1)) (drop (m + 1) ys) (omega (arith, fronted_length, length-drop (m + 1) ys)))

  whole_eq : (r : List ℕ) → take (m + 1) fronted ++ (r ++ drop (length fronted - (m + 1)) (drop (m + 1) fronted)) ≡ l ++ get_or ys m 0 ∷ r
  whole_eq r =
      let d : drop (length fronted - (m + 1)) (drop (m + 1) fronted) ≡ [] = drop_of_length-le
      (drop (m + 1) fronted) {i = length fronted - (m + 1)} (omega (arith, length-drop (m + 1) fronted)) in
      let t : take (m + 1) fronted ≡ l ++ (get_or ys m 0 ∷ []) = rw fronted_eq (take_past l (get_or ys m 0) (drop (m + 1) ys) m e) in
      rw (d, t, append-nil, append_assoc)

-- The numbers beside the one at the place m.
module _ {at : ℕ → ℕ → ℤ} {s : ℕ} {xs ys : List ℕ} {m : ℕ} (h : m < length ys) (p : Placed at s xs ys m) where
  left_before : every (λ q. before at s q (get_or ys m 0)) (take m ys) ≡ true
  left_before = at_every _ 0 (take m ys) (λ i l. go i (omega (arith, length-take-le m ys (omega arith))))
    where
      go : (i : ℕ) → i < m → before at s (get_or (take m ys) i 0) (get_or ys m 0) ≡ true
      go i l = rw get_or-take (p.before_node i l)

  right_after : every (λ q. before at s (get_or ys m 0) q) (drop (m + 1) ys) ≡ true
  right_after = at_every _ 0 (drop (m + 1) ys) (λ i l. go i (omega (arith, length-drop (m + 1) ys)))
    where
      go : (i : ℕ) → m + 1 + i < length ys → before at s (get_or ys m 0) (get_or (drop (m + 1) ys) i 0) ≡ true
      go i l = rw get_or-drop (p.after_node (m + 1 + i) (omega arith) l)

-- A placed node with its two branches, each come back as a tree.
module _ (k : ℕ) (at : ℕ → ℕ → ℤ) (s n : ℕ) (xs ys : List ℕ) (m : ℕ) (dimension : s < k) (next : n ≡ axis k (s + 1))
    (two : 2 ≤ length xs) (p : Placed at s xs ys m) (half : m ≡ middle (length xs)) where
  in_run : m < length ys
  in_run = let z = same_length p.same in omega arith

  node_tree : {l r : List ℕ} → Arranged k at n (take m ys) l → Arranged k at n (drop (m + 1) ys) r
      → tree_run (length (l ++ get_or ys m 0 ∷ r)) k at s (l ++ get_or ys m 0 ∷ r) ≡ true
  node_tree {l} {r} a b =
      let x : ℕ = get_or ys m 0 in
      let z = same_length p.same in
      let u = same_length a.same in
      let v = same_length b.same in
      let size : length l ≡ middle (length (l ++ x ∷ r)) = omega
      (arith, in_run, length-append l (x ∷ r), length-take-le m ys (omega (arith, in_run)), length-drop (m + 1) ys) in
      tree_made
      k at s n l x r dimension next size
      (same_every _ a.same (left_before in_run p)) (same_every _ b.same (right_after in_run p)) a.tree b.tree

  -- Both halves have one slot or none.
  pub arranged_small : length xs < 4 → Arranged k at s xs ys
  arranged_small few =
      let z = same_length p.same in
      let a = arranged_short k at n (take m ys) (omega (arith, in_run, length-take-le m ys (omega (arith, in_run)))) in
      let b = arranged_short k at n (drop (m + 1) ys) (omega (arith, in_run, length-drop (m + 1) ys)) in
      let w : take m ys ++ get_or ys m 0 ∷ drop (m + 1) ys ≡ ys = rw add-one (sym (split_at ys m 0 in_run)) in
      record { same = p.same; tree = rw w at (node_tree a b) }

  -- The parts came back one after the other, the second from the place q on.
  pub arranged_node : {l r : List ℕ} (q : ℕ) → Arranged k at n (take m ys) l
      → Arranged k at n (take (length (l ++ drop m ys) - q) (drop q (l ++ drop m ys))) r → q ≡ m + 1
      → Arranged k at s xs (take q (l ++ drop m ys) ++ (r ++ drop (length (l ++ drop m ys) - q) (drop q (l ++ drop m ys))))
  arranged_node {l} {r} q a b next =
      let e : length l ≡ m = same_length a.same ∙ length-take-le m ys (omega (arith, in_run)) in
      let w : List ℕ = l ++ drop m ys in
      rw next (record {
        same = same_trans (same_part w (m + 1) (length w - (m + 1)) (rw next at b.same)) (same_trans (same_front ys m a.same) p.same);
        tree = rw (whole_eq ys l m in_run e r) (node_tree a (rw (after_eq ys l m in_run e) at (rw next at b)));
      })

-- ---- what is asked of a run holds of it in another order, and of its parts on any dimension
module _ {k : ℕ} {points : List ℤ} {s : ℕ} {xs : List ℕ} (w : Arrangeable k points s xs) where
  pub arrangeable_same : {ys : List ℕ} → Same ys xs → Arrangeable k points s ys
  arrangeable_same c =
      let q = w.keyed in
      let z = same_length c in
      record {
        keyed = record { belongs = q.belongs; has_key = q.has_key; dimension = q.dimension; numbers = same_every q.belongs c q.numbers };
        distinct = same_distinct c w.distinct;
        few = omega (arith, w.few);
      }

  part : (n : ℕ) (ys : List ℕ) → n < k → length ys ≤ length xs → Distinct ys → every w.keyed.belongs ys ≡ true → Arrangeable k points n ys
  part n ys h l d e =
      record { keyed = record { belongs = w.keyed.belongs; has_key = w.keyed.has_key; dimension = h; numbers = e }; distinct = d; few = omega (arith, w.few) }

  split_distinct : (c : ℕ) → Distinct (take c xs) × Distinct (drop c xs)
  split_distinct c = distinct_append (take c xs) (drop c xs) (rw take-append-drop w.distinct)

  pub arrangeable_front : (n c : ℕ) → n < k → Arrangeable k points n (take c xs)
  arrangeable_front n c h =
      let z = length-take c xs in
      let test = w.keyed.belongs in
      part n (take c xs) h (omega arith) (split_distinct c).0 (at_every test 0 (take c xs) (λ i l.
      let u : i < c = omega arith in
      rw get_or-take (every_at test 0 xs w.keyed.numbers i (omega arith))))

  pub arrangeable_back : (n c : ℕ) → n < k → Arrangeable k points n (drop c xs)
  arrangeable_back n c h =
      let z = length-drop c xs in
      let test = w.keyed.belongs in
      part n (drop c xs) h (omega arith) (split_distinct c).1 (at_every test 0 (drop c xs) (λ i l.
      rw get_or-drop (every_at test 0 xs w.keyed.numbers (c + i) (omega arith))))

-- ---- the whole shelf
-- The numbers of a tested stock.
pub stock_arrangeable : (s : Stock) → TestedPoints s → Arrangeable s.k s.points 0 (members (belongs_to s) s.n)
stock_arrangeable s tested =
    let belongs = belongs_to s in
    let m = s.n in
    record {
      keyed = record { belongs = belongs; has_key = stock_keyed tested; dimension = tested.some; numbers = members_belong belongs m };
      distinct = each_distinct belongs m (stock_under s) (members_each belongs m same_refl);
      few = omega (arith, tested.many, members_few belongs m);
    }

pub arranged_tree : {k : ℕ} {at : ℕ → ℕ → ℤ} (belongs : ℕ → Bool) (m : ℕ) {run : List ℕ} → Arranged k at 0 (members belongs m) run
    → is_tree k at belongs m run ≡ true
unfolding is_tree
arranged_tree belongs m w = true_and (members_each belongs m w.same) w.tree
