-- The arrange call: the first refusal is its number, what it has tested where that is 0, and what it reads of the order.
use Rattle.std.specs.Prelude.{◌≡◌, Bool, List, ◌++◌, ℕ, ◌≤◌, ◌<◌, length, get_or, take, drop, eqb, ltb}
use Rattle.std.proofs.Math.Path.{refl}
use Rattle.std.proofs.Common.{sym, ap, ◌∙◌, arith, take-append-drop, length-take, ltb-true, lt-ltb}
use Rattle.std.proofs.Math.Bool.{true, false}
use Rattle.terms.specs.declared.Arranging.{Arranging}
use Rattle.terms.specs.Tests.{bit, count}
use Rattle.terms.specs.Lent.{Stock, Order}
use Rattle.terms.specs.Points.{belongs_to, slots_of}
use Rattle.terms.specs.Tree.{each_once, is_tree, shelf_run, is_shelf}
use Rattle.terms.specs.Refusals.{Refusal, stock_refusals, room_refusals, live_coordinate_refusals}
use Rattle.terms.specs.ArrangeCall.{arrange_refusals, arrange_code, arrange_answer, ArrangedAs}
use Rattle.theory.specs.Flags.{clash, same_test, and_true}
use Rattle.theory.specs.EachNumberOnce.{each_once_lem}
use Rattle.theory.specs.StockNumbers.{stock_under}
use Rattle.theory.specs.Tested.{TestedPoints}
use Rattle.theory.specs.FirstRefusal.{Passed, FirstHeld, no_zero, first_held, passed_parts, if_code}
use Rattle.theory.specs.RefusalsPassed.{stock_passed, room_passed}

-- What the arrange call has tested.
pub record ArrangePassed (s : Stock) (o : Order) : Type 0 where
  pub tested : TestedPoints s
  pub room : slots_of s ≤ length o.slots

module _ (s : Stock) (o : Order) where
  -- "Refusals: 1, 2, 3, 15, 4, 5": the first in the order of testing; and 0 where none holds.
  pub arrange_first : FirstHeld (arrange_refusals s o) (arrange_code s o)
  unfolding no_zero arrange_code
  arrange_first = first_held (arrange_refusals s o) refl

  pub arrange_tests_passed : Passed (arrange_refusals s o) → ArrangePassed s o
  arrange_tests_passed w =
      let R : List Refusal = room_refusals (slots_of s) (length o.slots) in
      let a = passed_parts (stock_refusals s) (R ++ live_coordinate_refusals s) w in
      let b = passed_parts R (live_coordinate_refusals s) a.1 in
      record { tested = stock_passed s a.0 b.1; room = room_passed (slots_of s) (length o.slots) b.0 }

  pub arrange_passed : arrange_code s o ≡ 0 → ArrangePassed s o
  arrange_passed e = arrange_tests_passed (arrange_first.done e)

  -- The answer's number is the call's.
  pub arrange_answer_code : (arrange_answer s o).code ≡ arrange_code s o
  unfolding arrange_answer
  arrange_answer_code = if_code (λ (r : Arranging). r.code) (arrange_code s o) _ _ refl refl

  -- Done, the answer says whether the order was the shelf.
  pub arrange_done_answer : arrange_code s o ≡ 0 → arrange_answer s o ≡ record { code = 0; already = bit (is_shelf s o) }
  unfolding arrange_answer
  arrange_done_answer z = rw z

  -- Where the first v places lack a live number,
  pub lacking_no_shelf : (p : ℕ) → belongs_to s p ≡ true → count (eqb p) (shelf_run s o) ≡ 0 → is_shelf s o ≡ false
  unfolding is_tree
  lacking_no_shelf p b none = go (is_shelf s o) refl
    where
      go : (t : Bool) → is_shelf s o ≡ t → is_shelf s o ≡ false
      go false e = e
      go true e =
          let w = each_once_lem (belongs_to s) s.n (and_true (each_once (belongs_to s) s.n (shelf_run s o)) e).0 in
          absurd (omega (arith, none, w.once p (stock_under s p b) b))

  -- or hold a number that does not belong, they are not the shelf.
  pub holding_no_shelf : (i : ℕ) → i < length (shelf_run s o) → belongs_to s (get_or (shelf_run s o) i 0) ≡ false → is_shelf s o ≡ false
  unfolding is_tree
  holding_no_shelf i l b = go (is_shelf s o) refl
    where
      go : (t : Bool) → is_shelf s o ≡ t → is_shelf s o ≡ false
      go false e = e
      go true e =
          let w = each_once_lem (belongs_to s) s.n (and_true (each_once (belongs_to s) s.n (shelf_run s o)) e).0 in
          clash (w.belong i l) b

pub arranged_code : {s : Stock} {o : Order} {a : Arranging} {x : Order} → ArrangedAs s o a x → a.code ≡ arrange_code s o
arranged_code {s} {o} e = ap (λ (r : Arranging). r.code) e.answered ∙ arrange_answer_code s o

-- Orders that agree in their first v slots are both too short or both long enough.
pub room_same : (n : ℕ) (o q : List ℕ) → take n o ≡ take n q → ltb (length o) n ≡ ltb (length q) n
room_same n o q e = same_test
    (λ a. lt-ltb (length q) n (omega (arith, ltb-true (length o) n a, length-take n o, length-take n q, ap length e)))
    (λ a. lt-ltb (length o) n (omega (arith, ltb-true (length q) n a, length-take n o, length-take n q, ap length e)))

-- The number reads of the order only whether it has v places: any first contents are taken.
pub arrange_code_reads : (s : Stock) (o q : Order) → ltb (length o.slots) (slots_of s) ≡ ltb (length q.slots) (slots_of s) → arrange_code s o ≡ arrange_code s q
unfolding arrange_code
arrange_code_reads s o q e = rw e

-- "Places from v on are neither read nor written": the answer is one of the first v slots.
pub arrange_reads : (s : Stock) (o q : Order) → shelf_run s o ≡ shelf_run s q → arrange_answer s o ≡ arrange_answer s q
unfolding arrange_answer
arrange_reads s o q e = rw (arrange_code_reads s o q (room_same (slots_of s) o.slots q.slots e), e)

-- Lists that agree in their first n items and in the later ones are equal.
pub same_parts : {A : Type 0} (n : ℕ) (xs ys : List A) → take n xs ≡ take n ys → drop n xs ≡ drop n ys → xs ≡ ys
same_parts n xs ys e f = sym (take-append-drop n xs) ∙ (cc) ∙ take-append-drop n ys
