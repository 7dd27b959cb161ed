-- The screen call: the first refusal is its number, what it has tested where that is 0, what it reads of the order, and how its answer stands to the list call's.
-- The screen's visits are a first part of the open slots, and all of them where none is inside.
use Rattle.std.specs.Prelude.{◌≡◌, true, false, List, [], ◌++◌, ℕ, ◌≤◌, length, replicate, ℤ}
use Rattle.std.proofs.Math.Path.{refl}
use Rattle.std.proofs.Common.{sym, ◌∙◌, arith, le-ltb}
use Rattle.std.proofs.Math.ListN.{take, length-map}
use Rattle.std.proofs.lemmas.List.{length-replicate}
use Rattle.std.proofs.Math.Seq.{take-length}
use Rattle.terms.specs.Lent.{Stock, Order, Faces}
use Rattle.terms.specs.Points.{slots_of}
use Rattle.terms.specs.Tree.{shelf_run, is_shelf}
use Rattle.terms.specs.Box.{root_box, shelf_boxes}
use Rattle.terms.specs.Region.{Region, inside, is_open}
use Rattle.terms.specs.Visits.{open_slots, visits}
use Rattle.terms.specs.Lists.{insides}
use Rattle.terms.specs.Screen.{inside_slots, up_to_first, screen_visits}
use Rattle.terms.specs.Refusals.{Refusal, first_of, face_refusals, tree_refusals}
use Rattle.terms.specs.ArrangeCall.{arrange_refusals}
use Rattle.terms.specs.ListCall.{list_code}
use Rattle.terms.specs.ScreenCall.{screen_refusals, screen_code, screen_answer}
use Rattle.theory.specs.Tested.{TestedPoints, TestedFaces}
use Rattle.theory.specs.FirstInside.{up_none, count_take_le}
use Rattle.theory.specs.BoxFuel.{boxes_length}
use Rattle.theory.specs.FirstRefusal.{Passed, FirstHeld, no_zero, first_held, passed_parts}
use Rattle.theory.specs.RefusalsPassed.{faces_passed, tree_passed}
use Rattle.theory.specs.ArrangeCall.{arrange_tests_passed, room_same}
use Rattle.theory.specs.ListCall.{list_nine}

-- What the screen call has tested.
pub record ScreenPassed (s : Stock) (o : Order) (f : Faces) : Type 0 where
  pub tested : TestedPoints s
  pub room : slots_of s ≤ length o.slots
  pub faced : TestedFaces s.k f
  pub shelf : is_shelf s o ≡ true

pub screen_tests_passed : (s : Stock) (o : Order) (f : Faces) → Passed (screen_refusals s o f) → ScreenPassed s o f
screen_tests_passed s o f w =
    let F : List Refusal = face_refusals s.k f in
    let T : List Refusal = tree_refusals s o in
    let a = passed_parts (arrange_refusals s o) (F ++ T) w in
    let b = passed_parts F T a.1 in
    let c = arrange_tests_passed s o a.0 in
    record { tested = c.tested; room = c.room; faced = faces_passed s.k f b.0; shelf = tree_passed s o b.1 }

module _ (s : Stock) (o : Order) (f : Faces) where
  -- "Refusals: 1 to 9 as there", and 11 "tested after 8": the first in the order of testing; and 0 where none holds.
  pub screen_first : FirstHeld (screen_refusals s o f) (screen_code s o f)
  unfolding no_zero screen_code
  screen_first = first_held (screen_refusals s o f) refl

  pub screen_passed : screen_code s o f ≡ 0 → ScreenPassed s o f
  screen_passed e = screen_tests_passed s o f (screen_first.done e)

  -- "It takes the list call's arguments without the list buffer": with room in a buffer both are accepted or refused alike.
  pub screen_code_is_list_code : (list : List ℕ) → slots_of s ≤ length list → screen_code s o f ≡ list_code s o f list
  unfolding screen_code list_code first_of
  screen_code_is_list_code list room = rw (le-ltb (length list) (slots_of s) room)

-- "The list calls still refuse a wrong order": where the call is done with one order, it gives 9 with any other that has room and is not the shelf.
pub screen_nine : (s : Stock) (o q : Order) (f : Faces) → screen_code s q f ≡ 0 → slots_of s ≤ length o.slots → is_shelf s o ≡ false → screen_code s o f ≡ 9
screen_nine s o q f e room other =
    let list : List ℕ = replicate (slots_of s) 0 in
    let long : slots_of s ≤ length list = omega (arith, length-replicate {A = ℕ} (slots_of s) 0) in
    screen_code_is_list_code s o f list long
    ∙ list_nine s o q f list (sym (screen_code_is_list_code s q f list long) ∙ e) room other

-- Orders that agree in their first v slots are screened alike.
pub screen_reads : (s : Stock) (o q : Order) (f : Faces) → shelf_run s o ≡ shelf_run s q → screen_answer s o f ≡ screen_answer s q f
unfolding screen_answer screen_code
screen_reads s o q f e = rw (room_same (slots_of s) o.slots q.slots e, e)

module _ (g : Region) (at : ℕ → ℕ → ℤ) (run : List ℕ) where
  -- The visits are at most all open slots.
  pub screen_visits_le : screen_visits g at run ≤ visits g at run
  unfolding screen_visits visits
  screen_visits_le = count_take_le (λ t. t) (up_to_first (inside_slots g at run)) (open_slots g at run)

  open_slots_length : length (open_slots g at run) ≡ length run
  unfolding open_slots
  open_slots_length = length-map (shelf_boxes g.k at run) (is_open g) ∙ boxes_length (length run) g.k at 0 run (root_box at run) (omega arith)

  -- "Or all open slots where none is found."
  pub screen_visits_none : insides g at run ≡ [] → screen_visits g at run ≡ visits g at run
  unfolding screen_visits visits inside_slots
  screen_visits_none e =
      let up = up_none (λ p. inside g (at p)) run e in
      let all : take (length run) (open_slots g at run) ≡ open_slots g at run = rw open_slots_length at (take-length (open_slots g at run)) in
      rw (up, all)
