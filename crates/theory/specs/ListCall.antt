-- The list call: the first refusal is its number, what it has tested where that is 0, what it reads of the order and of the list buffer, and what it writes.
-- Done, the order has v slots and the buffer v places, and the two lists fill just those.
use Rattle.std.specs.Prelude.{◌≡◌, ◌≢◌, true, false, length, take, drop, ltb}
use Rattle.std.proofs.Math.Path.{refl, sym}
use Rattle.std.proofs.Common.{ap, ◌∙◌, arith, length-drop, drop_at, length-take-le, le-ltb}
use mathlib.Core.List.{List, ◌++◌, reverse}
use Prim.Native.Nat.{ℕ, ◌≤◌}
use Rattle.std.proofs.Math.ListN.{length-append}
use Rattle.std.proofs.Math.Seq.{take_at}
use Rattle.std.proofs.lemmas.List.{take-append-le}
use Rattle.terms.specs.declared.Listing.{Listing}
use Rattle.terms.specs.Lent.{Stock, Order, Faces}
use Rattle.terms.specs.Points.{point_of, slots_of}
use Rattle.terms.specs.Tree.{shelf_run, is_shelf}
use Rattle.terms.specs.Region.{region}
use Rattle.terms.specs.Lists.{insides, outsides, places}
use Rattle.terms.specs.Refusals.{Refusal, first_of, stock_refusals, room_refusals, live_coordinate_refusals, face_refusals, tree_refusals}
use Rattle.terms.specs.ListCall.{list_refusals, list_code, list_answer, list_after, ListedAs}
use Rattle.theory.specs.Tested.{TestedPoints, TestedFaces}
use Rattle.theory.specs.InsideAndOutside.{places_length}
use Rattle.theory.specs.FirstRefusal.{Passed, FirstHeld, no_zero, first_held, first_zero, first_skip, passed_parts, passed_join, passed_next, passed_none, if_refused, if_code}
use Rattle.theory.specs.RefusalsPassed.{stock_passed, room_passed, faces_passed, tree_passed}
use Rattle.theory.specs.ArrangeCall.{room_same}

-- What the list call has tested.
pub record ListPassed (s : Stock) (o : Order) (f : Faces) (list : List ℕ) : Type 0 where
  pub tested : TestedPoints s
  pub room : slots_of s ≤ length o.slots
  pub list_room : slots_of s ≤ length list
  pub faced : TestedFaces s.k f
  pub shelf : is_shelf s o ≡ true

module _ (s : Stock) (o : Order) (f : Faces) (list : List ℕ) where
  -- "Each call tests those that concern its arguments", in the order of testing; and 0 where none holds.
  pub list_first : FirstHeld (list_refusals s o f list) (list_code s o f list)
  unfolding no_zero list_code
  list_first = first_held (list_refusals s o f list) refl

-- The groups of the list call that say nothing of the faces, and that of the faces.
pub record ListGroups (s : Stock) (o : Order) (f : Faces) (list : List ℕ) : Type 0 where
  pub shape : Passed (stock_refusals s)
  pub order_room : Passed (room_refusals (slots_of s) (length o.slots))
  pub list_room : Passed (room_refusals (slots_of s) (length list))
  pub coordinates : Passed (live_coordinate_refusals s)
  pub faces : Passed (face_refusals s.k f)
  pub tree : Passed (tree_refusals s o)

module _ (s : Stock) (o : Order) (f : Faces) (list : List ℕ) where
  abbrev O : List Refusal
  O = room_refusals (slots_of s) (length o.slots)

  abbrev L : List Refusal
  L = room_refusals (slots_of s) (length list)

  abbrev C : List Refusal
  C = live_coordinate_refusals s

  abbrev F : List Refusal
  F = face_refusals s.k f

  abbrev T : List Refusal
  T = tree_refusals s o

  -- Done, every group was passed, and where every group was passed the call is done.
  pub list_groups : list_code s o f list ≡ 0 → ListGroups s o f list
  list_groups e =
      let a = passed_parts (stock_refusals s) (O ++ L ++ C ++ F ++ T) ((list_first s o f list).done e) in
      let b = passed_parts O (L ++ C ++ F ++ T) a.1 in
      let c = passed_parts L (C ++ F ++ T) b.1 in
      let d = passed_parts C (F ++ T) c.1 in
      let g = passed_parts F T d.1 in
      record { shape = a.0; order_room = b.0; list_room = c.0; coordinates = d.0; faces = g.0; tree = g.1 }

  pub groups_listed : ListGroups s o f list → list_code s o f list ≡ 0
  unfolding list_code
  groups_listed w = first_zero (list_refusals s o f list)
      (passed_join (stock_refusals s) (O ++ L ++ C ++ F ++ T) w.shape
      (passed_join O (L ++ C ++ F ++ T) w.order_room
      (passed_join L (C ++ F ++ T) w.list_room
      (passed_join C (F ++ T) w.coordinates (passed_join F T w.faces w.tree)))))

  -- "List: 1 to 9", and 11 "tested after 8".
  pub list_passed : list_code s o f list ≡ 0 → ListPassed s o f list
  list_passed e =
      let w = list_groups e in
      record {
        tested = stock_passed s w.shape w.coordinates;
        room = room_passed (slots_of s) (length o.slots) w.order_room;
        list_room = room_passed (slots_of s) (length list) w.list_room;
        faced = faces_passed s.k f w.faces;
        shelf = tree_passed s o w.tree;
      }

  -- The answer's number is the call's.
  pub list_answer_code : (list_answer s o f list).code ≡ list_code s o f list
  unfolding list_answer
  list_answer_code = if_code (λ (r : Listing). r.code) (list_code s o f list) _ _ refl refl

  pub listed_code : {a : Listing} {x : List ℕ} → ListedAs s o f list a x → a.code ≡ list_code s o f list
  listed_code e = ap (λ (r : Listing). r.code) e.answered ∙ list_answer_code

-- Where the call is done, it is done with any other faces that are passed.
pub other_faces_done : (s : Stock) (o : Order) (f g : Faces) (list : List ℕ) → list_code s o f list ≡ 0 → Passed (face_refusals s.k g)
    → list_code s o g list ≡ 0
other_faces_done s o f g list e p =
    let w = list_groups s o f list e in
    groups_listed s o g list (record {
      shape = w.shape;
      order_room = w.order_room;
      list_room = w.list_room;
      coordinates = w.coordinates;
      faces = p;
      tree = w.tree;
    })

-- "The list calls still refuse a wrong order": where the call is done with one order, it gives 9 with any other that has room and is not the shelf.
pub list_nine : (s : Stock) (o q : Order) (f : Faces) (list : List ℕ) → list_code s q f list ≡ 0 → slots_of s ≤ length o.slots → is_shelf s o ≡ false
    → list_code s o f list ≡ 9
unfolding list_code first_of
list_nine s o q f list e room other =
    let w = list_groups s q f list e in
    let passed : Passed (stock_refusals s ++ O s o f list ++ L s o f list ++ C s o f list ++ F s o f list) =
    passed_join (stock_refusals s) (O s o f list ++ L s o f list ++ C s o f list ++ F s o f list) w.shape
    (passed_join (O s o f list) (L s o f list ++ C s o f list ++ F s o f list) (passed_next (le-ltb (length o.slots) (slots_of s) room) passed_none)
    (passed_join (L s o f list) (C s o f list ++ F s o f list) w.list_room
    (passed_join (C s o f list) (F s o f list) w.coordinates w.faces))) in
    first_skip (stock_refusals s ++ O s o f list ++ L s o f list ++ C s o f list ++ F s o f list) (tree_refusals s o) passed ∙ rw other refl

module _ (s : Stock) (o q : Order) (f : Faces) (list buffer : List ℕ) (slots : shelf_run s o ≡ shelf_run s q)
    (rooms : ltb (length list) (slots_of s) ≡ ltb (length buffer) (slots_of s)) where
  -- The list call's number and answer are one of the first v slots of the order and of whether the buffer has v places.
  pub list_code_reads : list_code s o f list ≡ list_code s q f buffer
  unfolding list_code
  list_code_reads = rw (room_same (slots_of s) o.slots q.slots slots, slots, rooms)

  pub list_answer_reads : list_answer s o f list ≡ list_answer s q f buffer
  unfolding list_answer
  list_answer_reads = rw (list_code_reads, slots)

  -- Done, nothing is left of what the buffer held but its places from v on.
  pub list_after_reads : drop (slots_of s) list ≡ drop (slots_of s) buffer → list_code s o f list ≡ 0 → list_after s o f list ≡ list_after s q f buffer
  unfolding list_after
  list_after_reads later done =
      let d : list_code s q f buffer ≡ 0 = sym list_code_reads ∙ done in
      rw (done, d, slots, later)

module _ (s : Stock) (o : Order) (f : Faces) (list : List ℕ) where
  -- "A refusal changes no lent number."
  pub list_refused : list_code s o f list ≢ 0 → list_after s o f list ≡ list
  unfolding list_after
  list_refused r = if_refused (list_code s o f list) _ list r

  -- The two lists as they stand in the buffer.
  abbrev both : List ℕ
  both = places (region s.k f) (point_of s) (shelf_run s o)

  module _ (done : list_code s o f list ≡ 0) where
    filled : list_after s o f list ≡ both ++ drop (slots_of s) list
    unfolding list_after
    filled = rw done

    size : length both ≡ slots_of s
    size =
        places_length (region s.k f) (point_of s) (shelf_run s o)
        ∙ length-take-le (slots_of s) o.slots (list_passed s o f list done).room

    -- "The list buffer, places 0 to n-1": the two lists.
    pub list_front : take (slots_of s) (list_after s o f list) ≡ both
    list_front = rw filled (take_at both (drop (slots_of s) list) (slots_of s) size)

    -- The first of them, as many as are counted inside, are the inside list.
    pub list_inside : take (list_answer s o f list).inside (list_after s o f list) ≡ insides (region s.k f) (point_of s) (shelf_run s o)
    unfolding list_answer
    list_inside =
        let ins : List ℕ = insides (region s.k f) (point_of s) (shelf_run s o) in
        let out : List ℕ = reverse (outsides (region s.k f) (point_of s) (shelf_run s o)) in
        rw (filled, done)
        (take-append-le (length ins) both (drop (slots_of s) list) (omega (arith, length-append ins out)) ∙ take_at ins out (length ins) refl)

    -- "Places from v on are neither read nor written."
    pub list_later : drop (slots_of s) (list_after s o f list) ≡ drop (slots_of s) list
    list_later = rw filled (drop_at both (drop (slots_of s) list) (slots_of s) size)

    pub list_length : length (list_after s o f list) ≡ length list
    list_length =
        let room = (list_passed s o f list done).list_room in
        rw filled (omega (arith, length-append both (drop (slots_of s) list), length-drop (slots_of s) list, size))
