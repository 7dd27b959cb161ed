-- The two lists share out the numbers of a run, and the places of the list buffer hold them all, each once.
-- A number that is not kept by a test is kept by its opposite, so the counts add up, and to turn a list round changes no count.
use Rattle.std.specs.Prelude.{◌≡◌, refl, Bool, true, false, not, ℕ, zero, suc, ◌+◌, ◌-◌, ◌<◌, length, get_or, ℤ}
use Rattle.std.proofs.Common.{sym, ◌∙◌, not-suc-le-zero, arith, length-append, get_or-append-add}
use mathlib.Core.List.{List, [], ◌∷◌, ◌++◌, reverse, reverse_aux, reverse_aux-eq}
use Rattle.std.proofs.lemmas.List.{length-reverse, get_or_at}
use Rattle.std.proofs.Math.ListN.{get_or-append}
use Rattle.terms.specs.Tests.{bit, count, keep, pick}
use Rattle.terms.specs.Lent.{Stock, Order}
use Rattle.terms.specs.Points.{point_of, belongs_to, slots_of}
use Rattle.terms.specs.Tree.{each_once, is_tree, shelf_run, is_shelf}
use Rattle.terms.specs.Region.{Region}
use Rattle.terms.specs.Lists.{insides, outsides, places}
use Rattle.theory.specs.Flags.{and_true}
use Rattle.theory.specs.Counting.{Same, count_append, same_length}
use Rattle.theory.specs.EachNumberOnce.{same_each}
use Rattle.theory.specs.StockNumbers.{stock_slots}

-- ---- turned round
count_reverse_aux : {A : Type 0} (test : A → Bool) (xs ys : List A) → count test (reverse_aux xs ys) ≡ count test xs + count test ys
unfolding count
count_reverse_aux test [] ys = omega arith
count_reverse_aux test (x ∷ xs) ys = omega (arith, count_reverse_aux test xs (x ∷ ys))

pub count_reverse : {A : Type 0} (test : A → Bool) (xs : List A) → count test (reverse xs) ≡ count test xs
unfolding count
count_reverse test xs = omega (arith, count_reverse_aux test xs [])

pub same_reverse : {A : Type 0} (xs : List A) → Same (reverse xs) xs
same_reverse xs = record { counts = λ test. count_reverse test xs }

-- Item i of a list stands i places before the last of the list turned round.
pub reverse_at : {A : Type 0} (z : A) (xs : List A) (i : ℕ) → i < length xs → get_or (reverse xs) (length xs - suc i) z ≡ get_or xs i z
reverse_at z [] i l = absurd (not-suc-le-zero l)
reverse_at z (x ∷ xs) zero l = rw (reverse_aux-eq xs (x ∷ [])) (get_or_at (reverse xs) x [] z (length (x ∷ xs) - 1) (omega (arith, length-reverse xs)))
reverse_at z (x ∷ xs) (suc i) l =
    let e : length (x ∷ xs) - suc (suc i) ≡ length xs - suc i = omega arith in
    let f = get_or-append (reverse xs) (x ∷ []) z (length xs - suc i) (omega (arith, length-reverse xs)) in
    rw (reverse_aux-eq xs (x ∷ []), e) (f ∙ reverse_at z xs i (omega arith))

-- ---- kept and not kept
pub count_shared : {A : Type 0} (test kept : A → Bool) (xs : List A)
    → count test (keep kept xs) + count test (keep (λ v. not (kept v)) xs) ≡ count test xs
unfolding count keep
count_shared test kept [] = refl
count_shared test kept (x ∷ xs) = go (kept x) (count_shared test kept xs)
  where
    go : (t : Bool) → count test (keep kept xs) + count test (keep (λ v. not (kept v)) xs) ≡ count test xs
        → count test (pick t x (keep kept xs)) + count test (pick (not t) x (keep (λ v. not (kept v)) xs)) ≡ bit (test x) + count test xs
    go true e = omega arith
    go false e = omega arith

-- ---- the lists of a run
module _ (g : Region) (at : ℕ → ℕ → ℤ) (run : List ℕ) where
  -- Every number of the run is in one of the two lists.
  pub lists_count : (test : ℕ → Bool) → count test (insides g at run) + count test (outsides g at run) ≡ count test run
  lists_count test = count_shared test _ run

  pub lists_same : Same (insides g at run ++ outsides g at run) run
  lists_same = record { counts = λ test. count_append test (insides g at run) (outsides g at run) ∙ lists_count test }

  -- "Inside plus outside is n."
  pub lists_length : length (insides g at run) + length (outsides g at run) ≡ length run
  lists_length = sym (length-append (insides g at run) (outsides g at run)) ∙ same_length lists_same

  -- "The buffer holds each number once."
  pub places_same : Same (places g at run) run
  places_same = record {
    counts = λ test. omega (
      arith,
      count_append test (insides g at run) (reverse (outsides g at run)),
      count_reverse test (outsides g at run),
      lists_count test,
    );
  }

  pub places_length : length (places g at run) ≡ length run
  places_length = same_length places_same

  pub places_each : (belongs : ℕ → Bool) (m : ℕ) → each_once belongs m run ≡ true → each_once belongs m (places g at run) ≡ true
  places_each belongs m e = same_each belongs m places_same e

  -- "Inside numbers from the front in slot order."
  pub inside_place : (i : ℕ) → i < length (insides g at run) → get_or (places g at run) i 0 ≡ get_or (insides g at run) i 0
  inside_place i l = get_or-append (insides g at run) (reverse (outsides g at run)) 0 i l

  -- "Outside numbers from place n-1 backwards, the first outside slot at place n-1."
  pub outside_place : (i : ℕ) → i < length (outsides g at run) → get_or (places g at run) (length run - suc i) 0 ≡ get_or (outsides g at run) i 0
  outside_place i l =
      let e : length run - suc i ≡ length (insides g at run) + (length (outsides g at run) - suc i) = omega (arith, lists_length) in
      rw e (get_or-append-add (insides g at run) (reverse (outsides g at run)) _ 0 ∙ reverse_at 0 (outsides g at run) i l)

-- ---- the lists of a shelf
module _ (s : Stock) (o : Order) (shelf : is_shelf s o ≡ true) (g : Region) where
  each_slot : each_once (belongs_to s) s.n (shelf_run s o) ≡ true
  unfolding is_tree
  each_slot = (and_true (each_once (belongs_to s) s.n (shelf_run s o)) shelf).0

  pub shelf_lists_length : length (insides g (point_of s) (shelf_run s o)) + length (outsides g (point_of s) (shelf_run s o)) ≡ slots_of s
  shelf_lists_length = lists_length g (point_of s) (shelf_run s o) ∙ stock_slots s (shelf_run s o) each_slot

  pub shelf_places_each : each_once (belongs_to s) s.n (places g (point_of s) (shelf_run s o)) ≡ true
  shelf_places_each = places_each g (point_of s) (shelf_run s o) (belongs_to s) s.n each_slot
