-- What "each number once" says, and two ways to see it: number by number, and as the Same numbers as those that belong.
-- Which numbers belong stays a variable test; only that they are below m is asked, and the shelf of all numbers below n stands at the end.
use Rattle.std.specs.Prelude.{◌≡◌, refl, Bool, false, ◌&&◌, List, ltb}
use Rattle.std.proofs.Common.{sym, ap, ◌∙◌, arith}
use Rattle.std.proofs.Math.Path.{fun_ext}
use Rattle.std.proofs.Math.Bool.{true}
use Prim.Native.Nat.{ℕ, ◌<◌}
use Rattle.std.proofs.Math.ListN.{length, get_or}
use Rattle.std.proofs.Math.Dec.{eqb}
use borrow.Author.Tests.{eqb-true, eq-eqb, ltb-true, lt-ltb}
use Rattle.terms.specs.Tests.{bit, count, every, rising}
use Rattle.terms.specs.Points.{below}
use Rattle.terms.specs.Tree.{members, each_once}
use Rattle.theory.specs.Flags.{same_test, and_true, true_and}
use Rattle.theory.specs.Counting.{Same, Distinct, every_at, at_every, bit_le, same_every, same_length, same_sym, same_trans, same_distinct}
use Rattle.theory.specs.SameByNumber.{same_by_number, every_counted, count_none}
use Rattle.theory.specs.RisingNumbers.{length_rising, members_belong, members_below, count_members, counted_all, members_shelf}

-- Only numbers below m belong. Otherwise a run could hold a number from m on any number of times.
abbrev pub BelongBelow : (ℕ → Bool) → ℕ → Type 0
BelongBelow belongs m = (p : ℕ) → belongs p ≡ true → p < m

-- "The first n slots hold each number 0 to n-1 once": each number in the run belongs, and each that belongs is counted once.
pub record EachOnce (belongs : ℕ → Bool) (m : ℕ) (run : List ℕ) : Type 0 where
  pub belong : (i : ℕ) → i < length run → belongs (get_or run i 0) ≡ true
  pub once : (p : ℕ) → p < m → belongs p ≡ true → count (eqb p) run ≡ 1

module _ (belongs : ℕ → Bool) (m : ℕ) where
  -- A member is counted once among the members, and a number that does not belong never.
  pub member_once : (p : ℕ) → p < m → belongs p ≡ true → count (eqb p) (members belongs m) ≡ 1
  member_once p l e = count_members belongs m p ∙ ap bit (true_and e (lt-ltb p m l))

  stranger_never : (p : ℕ) → belongs p ≡ false → count (eqb p) (members belongs m) ≡ 0
  stranger_never p e = count_members belongs m p ∙ rw e

  -- The test and what it says, there and back.
  pub each_once_lem : {run : List ℕ} → each_once belongs m run ≡ true → EachOnce belongs m run
  unfolding each_once
  each_once_lem {run} e =
      let p = and_true (every belongs run) e in
      record {
        belong = every_at belongs 0 run p.0;
        once = λ v l b.
            eqb-true (count (eqb v) run) 1
            (every_counted (λ q. eqb (count (eqb q) run) 1) (members belongs m) v p.1 (omega (arith, member_once v l b)));
      }

  pub once_each : {run : List ℕ} → EachOnce belongs m run → each_once belongs m run ≡ true
  unfolding each_once
  once_each {run} w = true_and (at_every belongs 0 run w.belong) (at_every _ 0 (members belongs m) counted)
    where
      counted : (i : ℕ) → i < length (members belongs m) → eqb (count (eqb (get_or (members belongs m) i 0)) run) 1 ≡ true
      counted i l =
          let v : ℕ = get_or (members belongs m) i 0 in
          let low : v < m = ltb-true v m (every_at (below m) 0 (members belongs m) (members_below belongs m) i l) in
          eq-eqb (count (eqb v) run) 1 (w.once v low (every_at belongs 0 (members belongs m) (members_belong belongs m) i l))

  -- The Same numbers in another order hold each once too.
  pub same_each : {xs ys : List ℕ} → Same xs ys → each_once belongs m ys ≡ true → each_once belongs m xs ≡ true
  same_each {xs} s e =
      let w = each_once_lem e in
      once_each (record {
        belong = every_at belongs 0 xs (same_every belongs s (at_every belongs 0 _ w.belong));
        once = λ p l b. s.counts (eqb p) ∙ w.once p l b;
      })

  -- The numbers that belong, in any order, hold each once.
  pub members_each : {run : List ℕ} → Same run (members belongs m) → each_once belongs m run ≡ true
  members_each s = same_each s (once_each (record {
    belong = every_at belongs 0 (members belongs m) (members_belong belongs m);
    once = member_once;
  }))

  -- A run that holds each once counts for every test as the numbers that belong do, and no other number stands in it.
  pub each_members : BelongBelow belongs m → {run : List ℕ} → each_once belongs m run ≡ true → Same run (members belongs m)
  each_members under {run} e = same_by_number (λ v. go v (belongs v) refl)
    where
      go : (v : ℕ) (t : Bool) → belongs v ≡ t → count (eqb v) run ≡ count (eqb v) (members belongs m)
      go v true b = (each_once_lem e).once v (under v b) b ∙ sym (member_once v (under v b) b)
      go v false b = count_none belongs run v (at_every belongs 0 run (each_once_lem e).belong) b ∙ sym (stranger_never v b)

  -- So it has as many slots as numbers belong, and no number twice.
  pub each_length : BelongBelow belongs m → (run : List ℕ) → each_once belongs m run ≡ true → length run ≡ length (members belongs m)
  each_length under run e = same_length (each_members under e)

  members_distinct : Distinct (members belongs m)
  members_distinct = record { once = λ v. omega (arith, count_members belongs m v, bit_le (belongs v && ltb v m)) }

  pub each_distinct : BelongBelow belongs m → {run : List ℕ} → each_once belongs m run ≡ true → Distinct run
  each_distinct under e = same_distinct (each_members under e) members_distinct

  -- Two runs that hold each once hold the Same numbers.
  pub each_same : BelongBelow belongs m → {xs ys : List ℕ} → each_once belongs m xs ≡ true → each_once belongs m ys ≡ true → Same xs ys
  each_same under a b = same_trans (each_members under a) (same_sym (each_members under b))

  -- Where as many belong as there are numbers below m, a number belongs exactly if it is below m.
  pub full_below : BelongBelow belongs m → count belongs (rising 0 m) ≡ m → belongs ≡ below m
  full_below under full = fun_ext (λ p. same_test (λ e. lt-ltb p m (under p e)) (λ e. counted_all belongs m full p (ltb-true p m e)))

-- ---- the shelf of all numbers below n
-- What belongs to a shelf of n is below n.
pub below_under : (n : ℕ) → BelongBelow (below n) n
below_under n p e = ltb-true p n e

-- Each number 0 to n-1 once is those numbers in some order.
pub shelf_rising : (n : ℕ) {run : List ℕ} → each_once (below n) n run ≡ true → Same run (rising 0 n)
shelf_rising n e = rw (members_shelf n) at (each_members (below n) n (below_under n) e)

pub rising_shelf : (n : ℕ) {run : List ℕ} → Same run (rising 0 n) → each_once (below n) n run ≡ true
rising_shelf n s = members_each (below n) n (rw members_shelf s)

-- A run that holds each number 0 to n-1 once has n slots, all below n.
pub shelf_length : (n : ℕ) (run : List ℕ) → each_once (below n) n run ≡ true → length run ≡ n
shelf_length n run e = same_length (shelf_rising n e) ∙ length_rising 0 n

pub shelf_below : (n : ℕ) (run : List ℕ) → each_once (below n) n run ≡ true → (i : ℕ) → i < length run → get_or run i 0 < n
shelf_below n run e i l = ltb-true (get_or run i 0) n ((each_once_lem (below n) n e).belong i l)
