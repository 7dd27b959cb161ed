-- Faces that are all marked closed, 0, give every call the answer that it gave before faces had marks.
-- Above asks what it asked before, so both lists and the open slots are the same, and neither test of 11 holds.
use Rattle.std.specs.Prelude.{◌≡◌, Bool, true, false, length, get_or, replicate, ℤ, eqb}
use Rattle.std.proofs.Math.Path.{ap, fun_ext}
use Rattle.std.proofs.Math.Bool.{not}
use mathlib.Core.List.{List, map}
use Prim.Native.Nat.{ℕ, ◌<◌}
use Rattle.std.proofs.Common.{arith, eq-eqb}
use Rattle.std.proofs.lemmas.List.{length-replicate, get_or-replicate}
use Rattle.terms.specs.Tests.{every, keep}
use Rattle.terms.specs.Lent.{Stock, Order, Faces}
use Rattle.terms.specs.Points.{point_of, lone}
use Rattle.terms.specs.Box.{Box, shelf_boxes}
use Rattle.terms.specs.Tree.{shelf_run}
use Rattle.terms.specs.Region.{Region, region, reach, above_at, inside, against, along, is_settled, is_open, is_mark}
use Rattle.terms.specs.Lists.{insides, outsides}
use Rattle.terms.specs.Visits.{open_slots, visits}
use Rattle.terms.specs.Screen.{inside_slots, screen_visits}
use Rattle.terms.specs.Refusals.{first_of}
use Rattle.terms.specs.ListCall.{list_code, list_answer, list_after}
use Rattle.terms.specs.ScreenCall.{screen_code, screen_answer}
use Rattle.terms.specs.PlaceCall.{place_code, place_answer}
use Rattle.terms.specs.Unmarked.{
  unmarked_above,
  unmarked_inside,
  unmarked_open,
  unmarked_insides,
  unmarked_outsides,
  unmarked_open_slots,
  unmarked_list_code,
  unmarked_list_answer,
  unmarked_list_after,
  unmarked_screen_code,
  unmarked_screen_answer,
  unmarked_place_code,
  unmarked_place_answer,
}
use Rattle.theory.specs.Counting.{at_every}
use Rattle.theory.specs.AllAndAny.{all_same, any_same}

-- ---- a region whose faces are all closed
module _ (g : Region) (closed : (i : ℕ) → i < g.h → g.marked_open i ≡ false) where
  -- Above a closed face means at least its offset.
  pub closed_above : (i : ℕ) → i < g.h → (v : ℤ) → above_at g i v ≡ unmarked_above g i v
  unfolding above_at unmarked_above
  closed_above i l v = rw (closed i l)

  -- So what is inside stays,
  pub closed_inside : (x : ℕ → ℤ) → inside g x ≡ unmarked_inside g x
  unfolding inside
  closed_inside x = all_same g.h _ _ (λ i l. closed_above i l (reach g i x))

  -- and what is open.
  pub closed_open : (b : Box) → is_open g b ≡ unmarked_open g b
  unfolding is_open is_settled
  closed_open b = rw (
    any_same g.h _ _ (λ i l. ap not (closed_above i l (reach g i (along g i b)))),
    all_same g.h _ _ (λ i l. closed_above i l (reach g i (against g i b))),
  )

  module _ (at : ℕ → ℕ → ℤ) (run : List ℕ) where
    -- The two lists stay, which slots are inside, and which are open.
    pub closed_insides : insides g at run ≡ unmarked_insides g at run
    closed_insides = ap (λ (test : ℕ → Bool). keep test run) (fun_ext (λ p. closed_inside (at p)))

    pub closed_outsides : outsides g at run ≡ unmarked_outsides g at run
    closed_outsides = ap (λ (test : ℕ → Bool). keep (λ p. not (test p)) run) (fun_ext (λ p. closed_inside (at p)))

    pub closed_inside_slots : inside_slots g at run ≡ map (λ p. unmarked_inside g (at p)) run
    unfolding inside_slots
    closed_inside_slots = ap (λ (test : ℕ → Bool). map test run) (fun_ext (λ p. closed_inside (at p)))

    pub closed_open_slots : open_slots g at run ≡ unmarked_open_slots g at run
    unfolding open_slots
    closed_open_slots = ap (λ (test : Box → Bool). map test (shelf_boxes g.k at run)) (fun_ext closed_open)

-- ---- the calls
module _ (f : Faces) (zeros : f.marks ≡ replicate f.h 0) where
  marks_size : length f.marks ≡ f.h
  marks_size = rw zeros (length-replicate f.h 0)

  mark_zero : (i : ℕ) → i < f.h → get_or f.marks i 0 ≡ 0
  mark_zero i l = rw zeros (get_or-replicate f.h i 0 0 l)

  -- Every face is closed.
  marks_closed : (i : ℕ) → i < f.h → eqb (get_or f.marks i 0) 1 ≡ false
  marks_closed i l = rw (mark_zero i l)

  -- Neither test of 11 holds: the marks are h, and each is 0. So the first refusal is the one that it was.
  as_many_marks : eqb (length f.marks) f.h ≡ true
  as_many_marks = eq-eqb (length f.marks) f.h marks_size

  all_marks_lem : every is_mark f.marks ≡ true
  all_marks_lem = at_every is_mark 0 f.marks (λ i l. rw (mark_zero i (omega (arith, marks_size))))

  list_code_stays : (s : Stock) (o : Order) (list : List ℕ) → list_code s o f list ≡ unmarked_list_code s o f list
  unfolding list_code first_of
  list_code_stays s o list = rw (as_many_marks, all_marks_lem)

  screen_code_stays : (s : Stock) (o : Order) → screen_code s o f ≡ unmarked_screen_code s o f
  unfolding screen_code first_of
  screen_code_stays s o = rw (as_many_marks, all_marks_lem)

  place_code_stays : (k : ℕ) (point : List ℤ) → place_code k point f ≡ unmarked_place_code k point f
  unfolding place_code first_of
  place_code_stays k point = rw (as_many_marks, all_marks_lem)

  module _ (s : Stock) (o : Order) where
    insides_stay : insides (region s.k f) (point_of s) (shelf_run s o) ≡ unmarked_insides (region s.k f) (point_of s) (shelf_run s o)
    insides_stay = closed_insides (region s.k f) marks_closed (point_of s) (shelf_run s o)

    outsides_stay : outsides (region s.k f) (point_of s) (shelf_run s o) ≡ unmarked_outsides (region s.k f) (point_of s) (shelf_run s o)
    outsides_stay = closed_outsides (region s.k f) marks_closed (point_of s) (shelf_run s o)

    open_slots_stay : open_slots (region s.k f) (point_of s) (shelf_run s o) ≡ unmarked_open_slots (region s.k f) (point_of s) (shelf_run s o)
    open_slots_stay = closed_open_slots (region s.k f) marks_closed (point_of s) (shelf_run s o)

    -- With all marks 0 every answer stays as it was before faces had marks: what the list call answers, refusals included,
    pub closed_list_answer : (list : List ℕ) → list_answer s o f list ≡ unmarked_list_answer s o f list
    unfolding list_answer visits
    closed_list_answer list = rw (list_code_stays s o list, insides_stay, outsides_stay, open_slots_stay)

    -- the list buffer after it,
    pub closed_list_after : (list : List ℕ) → list_after s o f list ≡ unmarked_list_after s o f list
    unfolding list_after
    closed_list_after list = rw (list_code_stays s o list, insides_stay, outsides_stay)

    -- what the screen call answers,
    pub closed_screen_answer : screen_answer s o f ≡ unmarked_screen_answer s o f
    unfolding screen_answer screen_visits
    closed_screen_answer = rw (
      screen_code_stays s o,
      insides_stay,
      closed_inside_slots (region s.k f) marks_closed (point_of s) (shelf_run s o),
      open_slots_stay,
    )

  -- and what the test of one point answers.
  pub closed_place_answer : (k : ℕ) (point : List ℤ) → place_answer k point f ≡ unmarked_place_answer k point f
  unfolding place_answer
  closed_place_answer k point = rw (place_code_stays k point, closed_inside (region k f) marks_closed (lone point))
