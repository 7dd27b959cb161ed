-- The explain call: the first refusal is its number, what it has tested where that is 0, what it reads of the order, and how its reason stands to the list call's
-- lists and visits.
use Rattle.std.specs.Prelude.{◌≡◌, Bool, true, false, ◌&&◌, ◌||◌, List, length, get_or, ℤ, eqb}
use Rattle.std.proofs.Math.Path.{refl}
use Rattle.std.proofs.Common.{sym, ap, ◌∙◌, arith, eqb-true}
use Prim.Native.Nat.{ℕ, zero, suc, ◌≤◌, ◌<◌}
use Rattle.terms.specs.declared.Reason.{Reason}
use Rattle.terms.specs.declared.Reason.TheVariants.{InsideWithBranch, InsideByItself, OutsideWithBranch, OutsideByItself}
use Rattle.terms.specs.Tests.{bit, count}
use Rattle.terms.specs.Lent.{Stock, Order, Faces}
use Rattle.terms.specs.Points.{belongs_to, slots_of}
use Rattle.terms.specs.Tree.{each_once, is_tree, shelf_run, is_shelf}
use Rattle.terms.specs.Region.{Region, inside}
use Rattle.terms.specs.Lists.{insides}
use Rattle.terms.specs.Refusals.{first_of, dead_refusals, if_done}
use Rattle.terms.specs.ScreenCall.{screen_refusals, screen_code}
use Rattle.terms.specs.ListCall.{list_code}
use Rattle.terms.specs.ExplainCall.{explain_refusals, explaining, explain_code, explain_answer}
use Rattle.theory.specs.Flags.{and_true}
use Rattle.theory.specs.Counting.{count_keep, count_same, count_no}
use Rattle.theory.specs.EachNumberOnce.{each_once_lem}
use Rattle.theory.specs.FirstRefusal.{FirstHeld, no_zero, first_held, first_zero, passed_parts, first_skip, first_stop}
use Rattle.theory.specs.RefusalsPassed.{dead_passed}
use Rattle.theory.specs.ArrangeCall.{room_same}
use Rattle.theory.specs.ScreenCall.{ScreenPassed, screen_tests_passed, screen_first, screen_code_is_list_code, screen_nine}
use Rattle.theory.specs.Reasons.{says_inside, says_itself}

-- The answer's number says inside: 1 or 2.
abbrev pub inside_number : ℕ → Bool
inside_number r = eqb r 1 || eqb r 2

-- It says "by its own test": 2 or 4.
abbrev pub itself_number : ℕ → Bool
itself_number r = eqb r 2 || eqb r 4

pub inside_number_lem : (why : Reason) → inside_number (explaining why).reason ≡ says_inside why
inside_number_lem (InsideWithBranch s) = refl
inside_number_lem (InsideByItself s) = refl
inside_number_lem (OutsideWithBranch s f m) = refl
inside_number_lem (OutsideByItself s f m) = refl

pub itself_number_lem : (why : Reason) → itself_number (explaining why).reason ≡ says_itself why
itself_number_lem (InsideWithBranch s) = refl
itself_number_lem (InsideByItself s) = refl
itself_number_lem (OutsideWithBranch s f m) = refl
itself_number_lem (OutsideByItself s f m) = refl

-- A number that belongs to a tree is listed inside once where its point is inside, and else never.
pub listed_inside : (g : Region) (at : ℕ → ℕ → ℤ) (belongs : ℕ → Bool) (m : ℕ) (run : List ℕ) → is_tree g.k at belongs m run ≡ true
    → (p : ℕ) → p < m → belongs p ≡ true → count (eqb p) (insides g at run) ≡ bit (inside g (at p))
unfolding is_tree
listed_inside g at belongs m run tree p l e = count_keep (eqb p) (λ q. inside g (at q)) run ∙ go (inside g (at p)) refl
  where
    once : count (eqb p) run ≡ 1
    once = (each_once_lem belongs m (and_true (each_once belongs m run) tree).0).once p l e

    -- Of p both tests say what the second says, and of any other number the comparison says no.
    both : (t : Bool) → inside g (at p) ≡ t → (q : ℕ) → inside g (at q) && eqb p q ≡ t && eqb p q
    both t h q = same (eqb p q) refl
      where
        no : (s : Bool) → s && false ≡ false
        no true = refl
        no false = refl

        same : (u : Bool) → eqb p q ≡ u → inside g (at q) && eqb p q ≡ t && eqb p q
        same true z = ap (λ (v : ℕ). inside g (at v) && eqb p q) (sym (eqb-true p q z)) ∙ ap (λ (s : Bool). s && eqb p q) h
        same false z = rw z (no (inside g (at q)) ∙ sym (no t))

    go : (t : Bool) → inside g (at p) ≡ t → count (λ q. inside g (at q) && eqb p q) run ≡ bit t
    go true h = count_same 0 (λ q. inside g (at q) && eqb p q) (eqb p) run (λ i n. both true h (get_or run i 0)) ∙ once
    go false h = count_same 0 (λ q. inside g (at q) && eqb p q) (λ q. false) run (λ i n. both false h (get_or run i 0)) ∙ count_no run

-- What the explain call has tested.
pub record ExplainPassed (s : Stock) (o : Order) (f : Faces) (p : ℕ) : Type 0 where
  pub screened : ScreenPassed s o f
  pub belongs : belongs_to s p ≡ true

module _ (s : Stock) (o : Order) (f : Faces) (p : ℕ) where
  -- "Refusals: those of the list call without its buffer, then" 17 "for" a "number that is dead or not below n", "last": the first in the order of testing; and 0 where none holds.
  pub explain_first : FirstHeld (explain_refusals s o f p) (explain_code s o f p)
  unfolding no_zero explain_code
  explain_first = first_held (explain_refusals s o f p) refl

  pub explain_passed : explain_code s o f p ≡ 0 → ExplainPassed s o f p
  explain_passed e =
      let w = passed_parts (screen_refusals s o f) (dead_refusals s.n p s.live) (explain_first.done e) in
      record { screened = screen_tests_passed s o f w.0; belongs = dead_passed s.n p s.live w.1 }

  -- "Those of the list call without its buffer": of a number that belongs, with room in a buffer, both are accepted or refused alike.
  pub explain_code_is_list_code : belongs_to s p ≡ true → (list : List ℕ) → slots_of s ≤ length list → explain_code s o f p ≡ list_code s o f list
  unfolding explain_code screen_code first_of
  explain_code_is_list_code b list room = rw b (screen_code_is_list_code s o f list room)

  -- "16 and 17 last": of a number that does not belong, 17 where the list call is accepted, and else its number.
  pub explain_code_otherwise : belongs_to s p ≡ false → (list : List ℕ) → slots_of s ≤ length list → explain_code s o f p ≡ if_done (list_code s o f list) 17 (list_code s o f list)
  unfolding explain_code screen_code first_of
  explain_code_otherwise b list room = rw (← screen_code_is_list_code s o f list room) (go (screen_code s o f) refl)
    where
      go : (c : ℕ) → screen_code s o f ≡ c → first_of (explain_refusals s o f p) ≡ if_done c 17 c
      go zero e = first_skip (screen_refusals s o f) (dead_refusals s.n p s.live) ((screen_first s o f).done e) ∙ rw b refl
      go (suc c) e = first_stop (screen_refusals s o f) (dead_refusals s.n p s.live) (λ z. absurd (omega (arith, e, z))) ∙ e

-- "The list calls still refuse a wrong order": where the call is done with one order, it gives 9 with any other that has room and is not the shelf.
pub explain_nine : (s : Stock) (o q : Order) (f : Faces) (p : ℕ) → explain_code s q f p ≡ 0 → slots_of s ≤ length o.slots → is_shelf s o ≡ false → explain_code s o f p ≡ 9
unfolding explain_code screen_code
explain_nine s o q f p e room other =
    let done : screen_code s q f ≡ 0 = first_zero (screen_refusals s q f) (passed_parts (screen_refusals s q f) (dead_refusals s.n p s.live) ((explain_first s q f p).done e)).0 in
    let nine = screen_nine s o q f done room other in
    first_stop (screen_refusals s o f) (dead_refusals s.n p s.live) (λ z. omega (arith, nine, z)) ∙ nine

-- Orders that agree in their first v slots are explained alike.
pub explain_reads : (s : Stock) (o q : Order) (f : Faces) (p : ℕ) → shelf_run s o ≡ shelf_run s q → explain_answer s o f p ≡ explain_answer s q f p
unfolding explain_answer explain_code
explain_reads s o q f p e = rw (room_same (slots_of s) o.slots q.slots e, e)
