-- The table of examples: rows of arguments with what the calls must give, as one statement: that every row holds of the calls as they are defined.
-- The first part has the given examples 1 to 9 and the table of S; the second has rows of our own where those leave a choice open.
use Rattle.std.specs.Prelude.{◌≡◌, Bool, true, false, List, [], ◌∷◌, map, ℕ, length, get_or, replicate, ℤ, pos, neg_ℤ, Float}
use Rattle.std.specs.Float.{binary32}
use Rattle.std.specs.Float.Ieee.{of_bits}
use Rattle.terms.specs.declared.Reading.{Reading}
use Rattle.terms.specs.declared.Making.{Making}
use Rattle.terms.specs.declared.Arranging.{Arranging}
use Rattle.terms.specs.declared.Listing.{Listing}
use Rattle.terms.specs.declared.Screening.{Screening}
use Rattle.terms.specs.declared.Placing.{Placing}
use Rattle.terms.specs.declared.Explaining.{Explaining}
use Rattle.terms.specs.declared.Taking.{Taking}
use Rattle.terms.specs.declared.Reason.{Reason}
use Rattle.terms.specs.declared.Reason.TheVariants.{InsideWithBranch, InsideByItself, OutsideWithBranch, OutsideByItself}
use Rattle.terms.specs.Tests.{count, rising}
use Rattle.terms.specs.Lent.{Stock, Order, Faces, Regions, stock, order_of, faces, regions}
use Rattle.terms.specs.Live.{is_live, live_count, lowest_dead}
use Rattle.terms.specs.LivePoints.{members_in_range}
use Rattle.terms.specs.Changes.{Change, taken, withdrawn, refused, may_change_all, changed_all}
use Rattle.terms.specs.Points.{coord, point_of, slots_of}
use Rattle.terms.specs.Tree.{members, shelf_run}
use Rattle.terms.specs.Box.{Box, root_box, shelf_boxes}
use Rattle.terms.specs.Region.{Region, region, reach, inside}
use Rattle.terms.specs.Summary.{summary, is_summary}
use Rattle.terms.specs.Visits.{open_slots, visits, tight_open_slots, tight_visits}
use Rattle.terms.specs.Bound.{S, is_square}
use Rattle.terms.specs.Reading.{colour, grey, nothing}
use Rattle.terms.specs.PointCall.{point_answer, point_after}
use Rattle.terms.specs.ArrangeCall.{ArrangedAs}
use Rattle.terms.specs.ListCall.{list_answer, list_after}
use Rattle.terms.specs.ListRegionsCall.{list_regions_code, lists_after, counts_after}
use Rattle.terms.specs.ScreenCall.{screen_answer}
use Rattle.terms.specs.Reason.{ReasonFor}
use Rattle.terms.specs.ExplainCall.{explain_answer}
use Rattle.terms.specs.Mirror.{mirror, with_face}
use Rattle.terms.specs.PlaceCall.{place_answer}
use Rattle.terms.specs.TakeCall.{take_answer, take_points, take_live}
use Rattle.terms.specs.WithdrawCall.{withdraw_answer, withdraw_live}

-- A negative number as one writes it.
abbrev minus : ℕ → ℤ
minus n = neg_ℤ (pos n)

-- The arguments that tell of a shelf: a stock and an order.
pub record Shelf : Type 0 where
  pub lent : Stock
  pub arranged : Order

-- The shelf of these arguments.
abbrev pub shelf_with : ℕ → ℕ → List ℤ → List ℕ → List ℕ → Shelf
shelf_with k n points live slots = record { lent = stock k n points live; arranged = order_of slots }

-- The same with all live.
abbrev pub shelf : ℕ → ℕ → List ℤ → List ℕ → Shelf
shelf k n points slots = shelf_with k n points (replicate n 1) slots

-- The region of a row's arguments.
abbrev pub cut : Shelf → Faces → Region
cut s f = region s.lent.k f

-- The slots of a row's shelf.
abbrev pub slots : Shelf → List ℕ
slots s = shelf_run s.lent s.arranged

-- The shelf with another order.
abbrev pub ordered : Shelf → List ℕ → Shelf
ordered s slots = record { lent = s.lent; arranged = order_of slots }

-- The least and the greatest coordinate of a box, dimension by dimension.
abbrev pub spans : ℕ → Box → List (List ℤ)
spans k b = map (λ d. b.low d ∷ b.high d ∷ []) (rising 0 k)

-- What a row gives, and what it must give.
pub data Row : Type 0 where
  arranges : Shelf → Arranging → (after : List ℕ) → Row
  lists : Shelf → Faces → (list : List ℕ) (answer : Listing) (after : List ℕ) → Row
  lists_regions : Shelf → Regions → (list_buffer counts_buffer : List ℕ) (answer : ℕ) (after_lists after_counts : List ℕ) → Row
  screens : Shelf → Faces → Screening → Row
  explains : Shelf → Faces → (number : ℕ) → Explaining → Row
  reasons : Shelf → Faces → (number : ℕ) → Reason → Row
  tests : (k : ℕ) (point : List ℤ) → Faces → Placing → Row
  opens : Shelf → Faces → List Bool → Row
  boxed : Shelf → (slot : ℕ) (sides : List (List ℤ)) → Row
  reaches : Shelf → Faces → (face number : ℕ) → ℤ → Row
  sums : (n k sum : ℕ) → Row
  attains : Shelf → Faces → Row
  squares : (k : ℕ) → Faces → List Bool → Row
  makes : Reading → (place : List ℤ) (answer : Making) (after : List ℤ) → Row
  lives : (n : ℕ) (live numbers : List ℕ) (many lowest : ℕ) → Row
  in_ranges : (k n : ℕ) (points : List ℤ) (live : List ℕ) → Bool → Row
  takes : (k n : ℕ) (points : List ℤ) (live : List ℕ) (point : List ℤ) → Taking → (points_after : List ℤ) (live_after : List ℕ) → Row
  withdraws : (n number : ℕ) (live : List ℕ) (answer : ℕ) (after : List ℕ) → Row
  changes : (n : ℕ) (live : List ℕ) → List Change → (may : Bool) (after : List ℕ) → Row
  summarised : Shelf → (summary : List ℤ) → Row
  summaries : Shelf → (given : List ℤ) → Bool → Row
  tight_opens : Shelf → Faces → List Bool → Row
  visited : Shelf → Faces → (tight first : ℕ) → Row

-- What it is for a row to hold: the call's definition gives what the row says.
abbrev pub Holds : Row → Type 0
Holds (arranges s answer after) = ArrangedAs s.lent s.arranged answer (order_of after)
Holds (lists s f list answer after) =
    (list_answer s.lent s.arranged f list ≡ answer) × (list_after s.lent s.arranged f list ≡ after)
Holds (lists_regions s g list_buffer counts_buffer answer after_lists after_counts) =
    (list_regions_code s.lent s.arranged g list_buffer counts_buffer ≡ answer)
    × (lists_after s.lent s.arranged g list_buffer counts_buffer ≡ after_lists)
    × (counts_after s.lent s.arranged g list_buffer counts_buffer ≡ after_counts)
Holds (screens s f answer) = screen_answer s.lent s.arranged f ≡ answer
Holds (explains s f number answer) = explain_answer s.lent s.arranged f number ≡ answer
Holds (reasons s f number why) = ReasonFor (cut s f) (point_of s.lent) (slots s) number why
Holds (tests k point f answer) = place_answer k point f ≡ answer
Holds (opens s f open-slots) = open_slots (cut s f) (point_of s.lent) (slots s) ≡ open-slots
Holds (boxed s slot sides) = spans s.lent.k (get_or (shelf_boxes s.lent.k (point_of s.lent) (slots s)) slot (root_box (coord 0 []) [])) ≡ sides
Holds (reaches s f face number sum) = reach (cut s f) face (point_of s.lent number) ≡ sum
Holds (sums n k sum) = S n k ≡ sum
Holds (attains s f) = visits (cut s f) (point_of s.lent) (slots s) ≡ S (slots_of s.lent) s.lent.k
Holds (squares k f answers) = map (is_square (region k f)) (rising 0 f.h) ≡ answers
Holds (makes r place answer after) = (point_answer r place ≡ answer) × (point_after r place ≡ after)
Holds (lives n live numbers many lowest) =
    (members (is_live n live) n ≡ numbers) × (live_count n live ≡ many) × (lowest_dead n live ≡ lowest)
Holds (in_ranges k n points live answer) = members_in_range k (coord k points) (is_live n live) n ≡ answer
Holds (takes k n points live point answer points_after live_after) =
    (take_answer k n points live point ≡ answer) × (take_points k n points live point ≡ points_after) × (take_live k n points live point ≡ live_after)
Holds (withdraws n number live answer after) = (withdraw_answer n number live ≡ answer) × (withdraw_live n number live ≡ after)
Holds (changes n live cs may after) = (may_change_all n live cs ≡ may) × (changed_all n live cs ≡ after)
Holds (summarised s numbers) = summary s.lent.k (point_of s.lent) (slots s) ≡ numbers
Holds (summaries s given answer) = is_summary s.lent.k (point_of s.lent) (slots s) given ≡ answer
Holds (tight_opens s f open-slots) = tight_open_slots (cut s f) (point_of s.lent) (slots s) ≡ open-slots
Holds (visited s f tight first) =
    (tight_visits (cut s f) (point_of s.lent) (slots s) ≡ tight) × (visits (cut s f) (point_of s.lent) (slots s) ≡ first)

-- Every row of a table holds.
infixr 20 ◌by◌also◌
pub data All : List Row → Type 0 where
  nothing_left : All []
  ◌by◌also◌ : (r : Row) {rs : List Row} → Holds r → All rs → All (r ∷ rs)

-- The answer of an arrange call that found the tree, of one that made it, and of one that is refused.
abbrev already : Arranging
already = record { code = 0; already = 1 }

abbrev anew : Arranging
anew = record { code = 0; already = 0 }

abbrev pub unarranged : ℕ → Arranging
unarranged c = record { code = c; already = 0 }

-- The answer of a list call that is done.
abbrev counts : ℕ → ℕ → ℕ → Listing
counts inside outside visits = record { code = 0; inside = inside; outside = outside; visits = visits }

-- The answer of a list call that is refused.
abbrev refusal : ℕ → Listing
refusal c = record { code = c; inside = 0; outside = 0; visits = 0 }

-- The answer of a screen that found a number, that found none, or that is refused.
abbrev finds : ℕ → ℕ → Screening
finds number visits = record { code = 0; found = 1; number = number; visits = visits }

abbrev finds_none : ℕ → Screening
finds_none visits = record { code = 0; found = 0; number = 0; visits = visits }

abbrev unscreened : ℕ → Screening
unscreened c = record { code = c; found = 0; number = 0; visits = 0 }

-- The answer of an explain call that is done: the reason, the slot, and for outside the face and the margin.
abbrev inside_because : ℕ → ℕ → Explaining
inside_because reason slot = record { code = 0; reason = reason; face = 0; slot = slot; margin = pos 0 }

abbrev outside_because : ℕ → ℕ → ℕ → ℤ → Explaining
outside_because reason slot face margin = record { code = 0; reason = reason; face = face; slot = slot; margin = margin }

-- The answer of an explain call that is refused.
abbrev unexplained : ℕ → Explaining
unexplained c = record { code = c; reason = 0; face = 0; slot = 0; margin = pos 0 }

-- The answer of a test of one point against faces: inside or not, and the least margin with its lowest-numbered face.
abbrev measures : ℕ → ℕ → ℤ → Placing
measures inside face margin = record { code = 0; inside = inside; measured = 1; face = face; margin = margin }

-- The answer of a test of one point that is refused.
abbrev untested : ℕ → Placing
untested c = record { code = c; inside = 0; measured = 0; face = 0; margin = pos 0 }

-- The answer of a take that is done.
abbrev takes_number : ℕ → Taking
takes_number number = record { code = 0; number = number }

-- A take that is refused: the points and the live bytes stay.
abbrev refuses_take : ℕ → ℕ → List ℤ → List ℕ → List ℤ → ℕ → Row
refuses_take k n points live point c = takes k n points live point (record { code = c; number = 0 }) points live

-- A withdrawal that is refused: the live bytes stay.
abbrev refuses_withdrawal : ℕ → ℕ → List ℕ → ℕ → Row
refuses_withdrawal n number live c = withdraws n number live c live

-- Faces that are all closed.
abbrev closed : ℕ → List ℤ → List ℤ → Faces
closed h normals offsets = faces h normals offsets (replicate h 0)

-- ---- the given examples

-- Shelf A.
abbrev pub shelf_a : Shelf
shelf_a = shelf 2 6 (pos 1 ∷ pos 5 ∷ pos 4 ∷ pos 2 ∷ pos 4 ∷ pos 8 ∷ pos 7 ∷ pos 1 ∷ pos 6 ∷ pos 6 ∷ pos 2 ∷ pos 2 ∷ []) (1 ∷ 5 ∷ 0 ∷ 2 ∷ 3 ∷ 4 ∷ [])

-- Its points with an order that is not arranged.
abbrev any_a : Shelf
any_a = ordered shelf_a (0 ∷ 0 ∷ 0 ∷ 0 ∷ 0 ∷ 0 ∷ [])

-- The two faces of the program's example.
abbrev two_faces : Faces
two_faces = closed 2 (pos 1 ∷ pos 1 ∷ minus 1 ∷ pos 0 ∷ []) (pos 7 ∷ minus 6 ∷ [])

-- Face (1, 0), m 5.
abbrev right_of_five : Faces
right_of_five = closed 1 (pos 1 ∷ pos 0 ∷ []) (pos 5 ∷ [])

-- Face (1, 0), m 1.
abbrev pub right_of_one : Faces
right_of_one = closed 1 (pos 1 ∷ pos 0 ∷ []) (pos 1 ∷ [])

-- Face (1, 0), m 8.
abbrev right_of_eight : Faces
right_of_eight = closed 1 (pos 1 ∷ pos 0 ∷ []) (pos 8 ∷ [])

-- Face (1, 1), m 6.
abbrev diagonal : Faces
diagonal = closed 1 (pos 1 ∷ pos 1 ∷ []) (pos 6 ∷ [])

-- No faces.
abbrev no_faces : Faces
no_faces = closed 0 [] []

-- Example 1: A's order is as printed.
abbrev pub example_1_arrange : Row
example_1_arrange = arranges any_a anew (1 ∷ 5 ∷ 0 ∷ 2 ∷ 3 ∷ 4 ∷ [])

-- Example 1: and it is found so.
abbrev pub example_1_already : Row
example_1_already = arranges shelf_a already shelf_a.arranged.slots

-- Example 2: A with the two faces.
abbrev pub example_2_list : Row
example_2_list = lists shelf_a two_faces (0 ∷ 0 ∷ 0 ∷ 0 ∷ 0 ∷ 0 ∷ []) (counts 2 4 5) (2 ∷ 4 ∷ 3 ∷ 0 ∷ 5 ∷ 1 ∷ [])

-- Example 2: only slot 0 is settled.
abbrev pub example_2_open : Row
example_2_open = opens shelf_a two_faces (false ∷ true ∷ true ∷ true ∷ true ∷ true ∷ [])

-- Example 2: slot 0's box is x 1..4, y 1..2.
abbrev pub example_2_box : Row
example_2_box = boxed shelf_a 0 ((pos 1 ∷ pos 4 ∷ []) ∷ (pos 1 ∷ pos 2 ∷ []) ∷ [])

-- Example 3: face (1, 0), m 5.
abbrev pub example_3_list : Row
example_3_list = lists shelf_a right_of_five (0 ∷ 0 ∷ 0 ∷ 0 ∷ 0 ∷ 0 ∷ []) (counts 2 4 3) (3 ∷ 4 ∷ 2 ∷ 0 ∷ 5 ∷ 1 ∷ [])

-- Example 4: m 1, all inside, no visits.
abbrev pub example_4_all : Row
example_4_all = lists shelf_a right_of_one (0 ∷ 0 ∷ 0 ∷ 0 ∷ 0 ∷ 0 ∷ []) (counts 6 0 0) (1 ∷ 5 ∷ 0 ∷ 2 ∷ 3 ∷ 4 ∷ [])

-- Example 4: m 8, all outside, no visits.
abbrev pub example_4_none : Row
example_4_none = lists shelf_a right_of_eight (0 ∷ 0 ∷ 0 ∷ 0 ∷ 0 ∷ 0 ∷ []) (counts 0 6 0) (4 ∷ 3 ∷ 2 ∷ 0 ∷ 5 ∷ 1 ∷ [])

-- Example 5: points 0 and 1 lie on the face and are inside.
abbrev pub example_5_list : Row
example_5_list = lists shelf_a diagonal (0 ∷ 0 ∷ 0 ∷ 0 ∷ 0 ∷ 0 ∷ []) (counts 5 1 6) (1 ∷ 0 ∷ 2 ∷ 3 ∷ 4 ∷ 5 ∷ [])

-- Example 5: point 0 has reach 6.
abbrev pub example_5_reach_0 : Row
example_5_reach_0 = reaches shelf_a diagonal 0 0 (pos 6)

-- Example 5: point 1 has reach 6.
abbrev pub example_5_reach_1 : Row
example_5_reach_1 = reaches shelf_a diagonal 0 1 (pos 6)

-- Example 6: no faces.
abbrev pub example_6_list : Row
example_6_list = lists shelf_a no_faces (0 ∷ 0 ∷ 0 ∷ 0 ∷ 0 ∷ 0 ∷ []) (counts 6 0 0) (1 ∷ 5 ∷ 0 ∷ 2 ∷ 3 ∷ 4 ∷ [])

-- Points 0 and 10 on a line.
abbrev pub pair : Shelf
pair = shelf 1 2 (pos 0 ∷ pos 10 ∷ []) (0 ∷ 1 ∷ [])

-- The same, not arranged.
abbrev any_pair : Shelf
any_pair = ordered pair (7 ∷ 7 ∷ [])

-- Face 1, m 5, on a line.
abbrev pub from_five : Faces
from_five = closed 1 (pos 1 ∷ []) (pos 5 ∷ [])

-- Example 7: the order is 0 1.
abbrev pub example_7_arrange : Row
example_7_arrange = arranges any_pair anew (0 ∷ 1 ∷ [])

-- Example 7: two visits.
abbrev pub example_7_list : Row
example_7_list = lists pair from_five (0 ∷ 0 ∷ []) (counts 1 1 2) (1 ∷ 0 ∷ [])

-- Example 7: the visits are S(2, 1).
abbrev pub example_7_bound : Row
example_7_bound = attains pair from_five

-- Points 3, 3, 3, not arranged.
abbrev any_ties : Shelf
any_ties = shelf 1 3 (pos 3 ∷ pos 3 ∷ pos 3 ∷ []) (2 ∷ 2 ∷ 2 ∷ [])

-- Points 3, 3, 3 in the order of their numbers.
abbrev ties : Shelf
ties = ordered any_ties (0 ∷ 1 ∷ 2 ∷ [])

-- The same in another order.
abbrev ties_swapped : Shelf
ties_swapped = ordered any_ties (1 ∷ 0 ∷ 2 ∷ [])

-- Example 8: the order is 0 1 2.
abbrev pub example_8_arrange : Row
example_8_arrange = arranges any_ties anew (0 ∷ 1 ∷ 2 ∷ [])

-- Example 8: it is found so.
abbrev pub example_8_already : Row
example_8_already = arranges ties already ties.arranged.slots

-- Example 8: order 1 0 2 is not it.
abbrev pub example_8_swapped : Row
example_8_swapped = arranges ties_swapped anew (0 ∷ 1 ∷ 2 ∷ [])

-- The one point (4, 2).
abbrev one : Shelf
one = shelf 2 1 (pos 4 ∷ pos 2 ∷ []) (0 ∷ [])

-- Example 9: outside, list 0, no visits.
abbrev pub example_9_list : Row
example_9_list = lists one two_faces (5 ∷ []) (counts 0 1 0) (0 ∷ [])

-- Example 9: the one-point test says outside.
abbrev pub example_9_test : Row
example_9_test = tests 2 (pos 4 ∷ pos 2 ∷ []) two_faces (measures 0 0 (minus 1))

-- S(6, 2).
abbrev pub sum_6_2 : Row
sum_6_2 = sums 6 2 5

-- S(65,535, 1).
abbrev pub sum_65535_1 : Row
sum_65535_1 = sums 65535 1 16

-- S(65,535, 2).
abbrev pub sum_65535_2 : Row
sum_65535_2 = sums 65535 2 765

-- S(65,535, 3).
abbrev pub sum_65535_3 : Row
sum_65535_3 = sums 65535 3 3411

-- S(65,535, 4).
abbrev pub sum_65535_4 : Row
sum_65535_4 = sums 65535 4 8775

-- ---- rows of our own

-- A point on the face is inside.
abbrev pub test_on_the_face : Row
test_on_the_face = tests 2 (pos 1 ∷ pos 5 ∷ []) diagonal (measures 1 0 (pos 0))

-- A point one below it is outside.
abbrev pub test_below_the_face : Row
test_below_the_face = tests 2 (pos 0 ∷ pos 5 ∷ []) diagonal (measures 0 0 (minus 1))

-- Shelf A's points in a longer order.
abbrev any_a_longer : Shelf
any_a_longer = ordered shelf_a (9 ∷ 9 ∷ 9 ∷ 9 ∷ 9 ∷ 9 ∷ 70 ∷ 71 ∷ [])

-- Places from v on stay.
abbrev pub arrange_keeps_later_places : Row
arrange_keeps_later_places = arranges any_a_longer anew (1 ∷ 5 ∷ 0 ∷ 2 ∷ 3 ∷ 4 ∷ 70 ∷ 71 ∷ [])

-- Shelf A in a longer order.
abbrev shelf_a_longer : Shelf
shelf_a_longer = ordered shelf_a (1 ∷ 5 ∷ 0 ∷ 2 ∷ 3 ∷ 4 ∷ 1 ∷ 0 ∷ [])

-- The list buffer's places from v on stay.
abbrev pub list_keeps_later_places : Row
list_keeps_later_places = lists shelf_a_longer two_faces (8 ∷ 8 ∷ 8 ∷ 8 ∷ 8 ∷ 8 ∷ 80 ∷ 81 ∷ []) (counts 2 4 5) (2 ∷ 4 ∷ 3 ∷ 0 ∷ 5 ∷ 1 ∷ 80 ∷ 81 ∷ [])

-- Points -5, 3, -4.
abbrev any_negatives : Shelf
any_negatives = shelf 1 3 (minus 5 ∷ pos 3 ∷ minus 4 ∷ []) (0 ∷ 0 ∷ 0 ∷ [])

-- Negative coordinates come first.
abbrev pub arrange_by_value_not_size : Row
arrange_by_value_not_size = arranges any_negatives anew (0 ∷ 2 ∷ 1 ∷ [])

-- Nine points of -1, 0, 1 with ties on every dimension: four levels, k 3.
abbrev any_ties_in_three : Shelf
any_ties_in_three = shelf 3 9 (pos 0 ∷ pos 1 ∷ pos 0 ∷ pos 0 ∷ pos 1 ∷ pos 1 ∷ minus 1 ∷ minus 1 ∷ pos 1 ∷ pos 0 ∷ pos 1 ∷ pos 1 ∷ minus 1 ∷ minus 1 ∷ pos 0 ∷ pos 0 ∷ minus 1 ∷ minus 1 ∷ pos 1 ∷ pos 1 ∷ pos 1 ∷ minus 1 ∷ pos 1 ∷ pos 0 ∷ pos 0 ∷ pos 1 ∷ pos 1 ∷ []) (0 ∷ 0 ∷ 0 ∷ 0 ∷ 0 ∷ 0 ∷ 0 ∷ 0 ∷ 0 ∷ [])

-- The same, arranged.
abbrev ties_in_three : Shelf
ties_in_three = ordered any_ties_in_three (4 ∷ 2 ∷ 0 ∷ 7 ∷ 1 ∷ 5 ∷ 3 ∷ 6 ∷ 8 ∷ [])

-- Ties on every dimension go by number.
abbrev pub arrange_ties_in_three : Row
arrange_ties_in_three = arranges any_ties_in_three anew (4 ∷ 2 ∷ 0 ∷ 7 ∷ 1 ∷ 5 ∷ 3 ∷ 6 ∷ 8 ∷ [])

-- Eight equal points: four levels, k 3.
abbrev any_equal : Shelf
any_equal = shelf 3 8 (pos 4 ∷ minus 4 ∷ pos 4 ∷ pos 4 ∷ minus 4 ∷ pos 4 ∷ pos 4 ∷ minus 4 ∷ pos 4 ∷ pos 4 ∷ minus 4 ∷ pos 4 ∷ pos 4 ∷ minus 4 ∷ pos 4 ∷ pos 4 ∷ minus 4 ∷ pos 4 ∷ pos 4 ∷ minus 4 ∷ pos 4 ∷ pos 4 ∷ minus 4 ∷ pos 4 ∷ []) (3 ∷ 3 ∷ 3 ∷ 3 ∷ 3 ∷ 3 ∷ 3 ∷ 3 ∷ [])

-- Equal points stand in the order of their numbers.
abbrev pub arrange_equal_points : Row
arrange_equal_points = arranges any_equal anew (0 ∷ 1 ∷ 2 ∷ 3 ∷ 4 ∷ 5 ∷ 6 ∷ 7 ∷ [])

-- Two slanted faces with negative components, and a zero face with m 0.
abbrev slanted_in_three : Faces
slanted_in_three = closed 3 (pos 5 ∷ pos 0 ∷ minus 4 ∷ pos 2 ∷ minus 2 ∷ minus 3 ∷ pos 0 ∷ pos 0 ∷ pos 0 ∷ []) (minus 4 ∷ minus 5 ∷ pos 0 ∷ [])

-- A slanted region in three dimensions.
abbrev pub list_ties_in_three : Row
list_ties_in_three = lists ties_in_three slanted_in_three (0 ∷ 0 ∷ 0 ∷ 0 ∷ 0 ∷ 0 ∷ 0 ∷ 0 ∷ 0 ∷ []) (counts 6 3 5) (0 ∷ 1 ∷ 5 ∷ 3 ∷ 6 ∷ 8 ∷ 7 ∷ 2 ∷ 4 ∷ [])

-- Its open slots.
abbrev pub open_ties_in_three : Row
open_ties_in_three = opens ties_in_three slanted_in_three (true ∷ true ∷ true ∷ true ∷ true ∷ false ∷ false ∷ false ∷ false ∷ [])

-- Eleven points spread around 0: four levels, k 3.
abbrev any_three : Shelf
any_three = shelf 3 11 (minus 2 ∷ minus 15 ∷ minus 19 ∷ pos 17 ∷ minus 1 ∷ pos 7 ∷ pos 4 ∷ pos 13 ∷ pos 2 ∷ minus 12 ∷ minus 8 ∷ minus 3 ∷ pos 8 ∷ minus 20 ∷ minus 6 ∷ pos 19 ∷ pos 9 ∷ minus 19 ∷ minus 14 ∷ minus 15 ∷ pos 11 ∷ pos 6 ∷ minus 19 ∷ pos 12 ∷ pos 20 ∷ pos 7 ∷ pos 2 ∷ minus 17 ∷ minus 7 ∷ minus 18 ∷ pos 17 ∷ pos 3 ∷ minus 9 ∷ []) (0 ∷ 0 ∷ 0 ∷ 0 ∷ 0 ∷ 0 ∷ 0 ∷ 0 ∷ 0 ∷ 0 ∷ 0 ∷ [])

-- The same, arranged.
abbrev three : Shelf
three = ordered any_three (0 ∷ 6 ∷ 3 ∷ 9 ∷ 2 ∷ 7 ∷ 4 ∷ 1 ∷ 10 ∷ 5 ∷ 8 ∷ [])

-- A spread shelf in three dimensions.
abbrev pub arrange_three : Row
arrange_three = arranges any_three anew (0 ∷ 6 ∷ 3 ∷ 9 ∷ 2 ∷ 7 ∷ 4 ∷ 1 ∷ 10 ∷ 5 ∷ 8 ∷ [])

-- A slanted face and a square one, both with negative components.
abbrev wedge_in_three : Faces
wedge_in_three = closed 2 (minus 3 ∷ pos 4 ∷ minus 4 ∷ minus 1 ∷ pos 0 ∷ pos 0 ∷ []) (minus 142 ∷ minus 4 ∷ [])

-- A wedge in three dimensions.
abbrev pub list_three : Row
list_three = lists three wedge_in_three (0 ∷ 0 ∷ 0 ∷ 0 ∷ 0 ∷ 0 ∷ 0 ∷ 0 ∷ 0 ∷ 0 ∷ 0 ∷ []) (counts 5 6 6) (0 ∷ 6 ∷ 3 ∷ 9 ∷ 2 ∷ 8 ∷ 5 ∷ 10 ∷ 1 ∷ 4 ∷ 7 ∷ [])

-- Its open slots.
abbrev pub open_three : Row
open_three = opens three wedge_in_three (true ∷ true ∷ true ∷ true ∷ true ∷ true ∷ false ∷ false ∷ false ∷ false ∷ false ∷ [])

-- Fifteen points with ties: four levels, k 4.
abbrev any_four : Shelf
any_four = shelf 4 15 (pos 2 ∷ minus 3 ∷ pos 2 ∷ minus 3 ∷ pos 2 ∷ pos 9 ∷ pos 9 ∷ minus 3 ∷ pos 2 ∷ minus 3 ∷ pos 2 ∷ minus 3 ∷ pos 2 ∷ minus 7 ∷ pos 9 ∷ pos 0 ∷ minus 3 ∷ pos 2 ∷ pos 0 ∷ pos 2 ∷ pos 9 ∷ pos 0 ∷ pos 2 ∷ pos 2 ∷ minus 3 ∷ minus 3 ∷ pos 9 ∷ minus 3 ∷ pos 2 ∷ minus 3 ∷ pos 2 ∷ pos 9 ∷ pos 2 ∷ minus 3 ∷ pos 2 ∷ minus 7 ∷ minus 7 ∷ minus 7 ∷ pos 0 ∷ minus 7 ∷ pos 2 ∷ minus 3 ∷ pos 2 ∷ minus 3 ∷ pos 9 ∷ pos 2 ∷ minus 3 ∷ minus 7 ∷ minus 3 ∷ minus 3 ∷ pos 2 ∷ minus 3 ∷ pos 9 ∷ pos 0 ∷ pos 2 ∷ minus 3 ∷ minus 3 ∷ minus 3 ∷ minus 7 ∷ pos 2 ∷ []) (1 ∷ 1 ∷ 1 ∷ 1 ∷ 1 ∷ 1 ∷ 1 ∷ 1 ∷ 1 ∷ 1 ∷ 1 ∷ 1 ∷ 1 ∷ 1 ∷ 1 ∷ [])

-- The same, arranged.
abbrev four : Shelf
four = ordered any_four (9 ∷ 0 ∷ 6 ∷ 12 ∷ 14 ∷ 4 ∷ 1 ∷ 2 ∷ 7 ∷ 8 ∷ 3 ∷ 10 ∷ 11 ∷ 5 ∷ 13 ∷ [])

-- A shelf in four dimensions.
abbrev pub arrange_four : Row
arrange_four = arranges any_four anew (9 ∷ 0 ∷ 6 ∷ 12 ∷ 14 ∷ 4 ∷ 1 ∷ 2 ∷ 7 ∷ 8 ∷ 3 ∷ 10 ∷ 11 ∷ 5 ∷ 13 ∷ [])

-- Two slanted faces in four dimensions.
abbrev slanted_in_four : Faces
slanted_in_four = closed 2 (pos 2 ∷ pos 0 ∷ minus 4 ∷ pos 5 ∷ pos 4 ∷ pos 1 ∷ pos 1 ∷ minus 1 ∷ []) (minus 57 ∷ pos 29 ∷ [])

-- A slanted region in four dimensions.
abbrev pub list_four : Row
list_four = lists four slanted_in_four (0 ∷ 0 ∷ 0 ∷ 0 ∷ 0 ∷ 0 ∷ 0 ∷ 0 ∷ 0 ∷ 0 ∷ 0 ∷ 0 ∷ 0 ∷ 0 ∷ 0 ∷ []) (counts 4 11 11) (1 ∷ 11 ∷ 5 ∷ 13 ∷ 10 ∷ 3 ∷ 8 ∷ 7 ∷ 2 ∷ 4 ∷ 14 ∷ 12 ∷ 6 ∷ 0 ∷ 9 ∷ [])

-- Its open slots.
abbrev pub open_four : Row
open_four = opens four slanted_in_four (false ∷ false ∷ false ∷ true ∷ false ∷ true ∷ true ∷ true ∷ true ∷ true ∷ true ∷ true ∷ true ∷ true ∷ true ∷ [])

-- The same with two slots swapped.
abbrev four_swapped : Shelf
four_swapped = ordered any_four (0 ∷ 9 ∷ 6 ∷ 12 ∷ 14 ∷ 4 ∷ 1 ∷ 2 ∷ 7 ∷ 8 ∷ 3 ∷ 10 ∷ 11 ∷ 5 ∷ 13 ∷ [])

-- Two slots swapped are not the tree.
abbrev pub arrange_swapped : Row
arrange_swapped = arranges four_swapped anew four.arranged.slots

-- The two extreme points in four dimensions.
abbrev any_extremes : Shelf
any_extremes = shelf 4 2 (minus 32768 ∷ minus 32768 ∷ minus 32768 ∷ minus 32768 ∷ pos 32767 ∷ pos 32767 ∷ pos 32767 ∷ pos 32767 ∷ []) (0 ∷ 0 ∷ [])

-- The same, arranged.
abbrev extremes : Shelf
extremes = ordered any_extremes (0 ∷ 1 ∷ [])

-- The extremes of a coordinate pass.
abbrev pub arrange_extremes : Row
arrange_extremes = arranges any_extremes anew (0 ∷ 1 ∷ [])

-- The extremes of component and offset; the last face runs through the least point.
abbrev extreme_faces : Faces
extreme_faces = closed 3 (pos 32767 ∷ pos 32767 ∷ pos 32767 ∷ pos 32767 ∷ minus 32767 ∷ minus 32767 ∷ minus 32767 ∷ minus 32767 ∷ minus 32767 ∷ minus 32767 ∷ minus 32767 ∷ minus 32767 ∷ []) (minus 8589934592 ∷ minus 8589934592 ∷ pos 4294836224 ∷ [])

-- The greatest sums of products, one of them on a face.
abbrev pub list_extremes : Row
list_extremes = lists extremes extreme_faces (0 ∷ 0 ∷ []) (counts 1 1 2) (0 ∷ 1 ∷ [])

-- An offset that no point reaches.
abbrev beyond_reach : Faces
beyond_reach = closed 1 (pos 32767 ∷ pos 32767 ∷ pos 32767 ∷ pos 32767 ∷ []) (pos 8589934592 ∷ [])

-- All outside, no visits.
abbrev pub list_beyond_reach : Row
list_beyond_reach = lists extremes beyond_reach (0 ∷ 0 ∷ []) (counts 0 2 0) (1 ∷ 0 ∷ [])

-- A zero normal with m 0.
abbrev zero_face : Faces
zero_face = closed 1 (pos 0 ∷ pos 0 ∷ []) (pos 0 ∷ [])

-- A zero normal with m 1.
abbrev zero_face_above_none : Faces
zero_face_above_none = closed 1 (pos 0 ∷ pos 0 ∷ []) (pos 1 ∷ [])

-- All inside, no visits.
abbrev pub list_zero_face : Row
list_zero_face = lists shelf_a zero_face (0 ∷ 0 ∷ 0 ∷ 0 ∷ 0 ∷ 0 ∷ []) (counts 6 0 0) (1 ∷ 5 ∷ 0 ∷ 2 ∷ 3 ∷ 4 ∷ [])

-- None inside, no visits.
abbrev pub list_zero_face_above_none : Row
list_zero_face_above_none = lists shelf_a zero_face_above_none (0 ∷ 0 ∷ 0 ∷ 0 ∷ 0 ∷ 0 ∷ []) (counts 0 6 0) (4 ∷ 3 ∷ 2 ∷ 0 ∷ 5 ∷ 1 ∷ [])

-- The empty shelf.
abbrev empty : Shelf
empty = shelf 3 0 [] []

-- Nothing, no visits.
abbrev pub list_empty : Row
list_empty = lists empty slanted_in_three ([]) (counts 0 0 0) ([])

-- ---- refusals, each beside the next fault so that the order of the tests shows

-- k 5, and n 65,536.
abbrev five_dimensions : Shelf
five_dimensions = shelf 5 65536 [] []

-- k 0.
abbrev no_dimension : Shelf
no_dimension = shelf 0 2 [] (0 ∷ 1 ∷ [])

-- 1 before 2.
abbrev pub arrange_refuses_k_first : Row
arrange_refuses_k_first = arranges five_dimensions (unarranged 1) []

-- k 0 is 1.
abbrev pub arrange_refuses_no_dimension : Row
arrange_refuses_no_dimension = arranges no_dimension (unarranged 1) no_dimension.arranged.slots

-- n 65,536, and points of another length.
abbrev too_many : Shelf
too_many = shelf 2 65536 (pos 1 ∷ []) []

-- 2 before 3.
abbrev pub arrange_refuses_n_second : Row
arrange_refuses_n_second = arranges too_many (unarranged 2) []

-- Eleven coordinates for six points, and a short order.
abbrev wrong_points : Shelf
wrong_points = shelf 2 6 (pos 1 ∷ pos 5 ∷ pos 4 ∷ pos 2 ∷ pos 4 ∷ pos 8 ∷ pos 7 ∷ pos 1 ∷ pos 6 ∷ pos 6 ∷ pos 2 ∷ []) (5 ∷ [])

-- 3 before 4.
abbrev pub arrange_refuses_points_third : Row
arrange_refuses_points_third = arranges wrong_points (unarranged 3) (5 ∷ [])

-- A short order, and a coordinate out of range.
abbrev short_order : Shelf
short_order = shelf 1 2 (pos 0 ∷ pos 40000 ∷ []) (5 ∷ [])

-- 4 before 5.
abbrev pub arrange_refuses_room_fourth : Row
arrange_refuses_room_fourth = arranges short_order (unarranged 4) (5 ∷ [])

-- Coordinate 32,768, and an order that is no tree.
abbrev coordinate_too_high : Shelf
coordinate_too_high = shelf 1 2 (pos 0 ∷ pos 32768 ∷ []) (0 ∷ 0 ∷ [])

-- 5 for a coordinate too high.
abbrev pub arrange_refuses_coordinate_fifth : Row
arrange_refuses_coordinate_fifth = arranges coordinate_too_high (unarranged 5) coordinate_too_high.arranged.slots

-- Coordinate -32,769.
abbrev coordinate_too_low : Shelf
coordinate_too_low = shelf 1 2 (minus 32769 ∷ pos 0 ∷ []) (0 ∷ 1 ∷ [])

-- 5 for a coordinate too low; the order stays.
abbrev pub arrange_refuses_low_coordinate : Row
arrange_refuses_low_coordinate = arranges coordinate_too_low (unarranged 5) (0 ∷ 1 ∷ [])

-- h 33, and normals of another length.
abbrev too_many_faces : Faces
too_many_faces = closed 33 [] []

-- 4 for a short list buffer, before 6.
abbrev pub list_refuses_short_list : Row
list_refuses_short_list = lists pair too_many_faces (3 ∷ []) (refusal 4) (3 ∷ [])

-- 5 before 6.
abbrev pub list_refuses_coordinate : Row
list_refuses_coordinate = lists coordinate_too_high too_many_faces (3 ∷ 3 ∷ []) (refusal 5) (3 ∷ 3 ∷ [])

-- 6 before 7.
abbrev pub list_refuses_h : Row
list_refuses_h = lists pair too_many_faces (3 ∷ 3 ∷ []) (refusal 6) (3 ∷ 3 ∷ [])

-- A component too many, and an offset out of range.
abbrev wrong_normals : Faces
wrong_normals = closed 1 (pos 1 ∷ pos 2 ∷ []) (pos 9000000000 ∷ [])

-- 7 before 8.
abbrev pub list_refuses_normals : Row
list_refuses_normals = lists pair wrong_normals (3 ∷ 3 ∷ []) (refusal 7) (3 ∷ 3 ∷ [])

-- No offset, and a component out of range.
abbrev wrong_offsets : Faces
wrong_offsets = closed 1 (minus 32768 ∷ []) []

-- 7 for offsets of another length, before 8.
abbrev pub list_refuses_offsets : Row
list_refuses_offsets = lists pair wrong_offsets (3 ∷ 3 ∷ []) (refusal 7) (3 ∷ 3 ∷ [])

-- Points 0 and 10 in the wrong order.
abbrev pair_swapped : Shelf
pair_swapped = ordered pair (1 ∷ 0 ∷ [])

-- Component -32,768.
abbrev component_too_low : Faces
component_too_low = closed 1 (minus 32768 ∷ []) (pos 0 ∷ [])

-- 8 before 9.
abbrev pub list_refuses_component : Row
list_refuses_component = lists pair_swapped component_too_low (3 ∷ 3 ∷ []) (refusal 8) (3 ∷ 3 ∷ [])

-- Component 32,768.
abbrev component_too_high : Faces
component_too_high = closed 1 (pos 32768 ∷ []) (pos 0 ∷ [])

-- 8 for component 32,768.
abbrev pub list_refuses_high_component : Row
list_refuses_high_component = lists pair component_too_high (3 ∷ 3 ∷ []) (refusal 8) (3 ∷ 3 ∷ [])

-- Offset 8,589,934,593.
abbrev offset_too_high : Faces
offset_too_high = closed 1 (pos 1 ∷ []) (pos 8589934593 ∷ [])

-- 8 for an offset one too great.
abbrev pub list_refuses_offset : Row
list_refuses_offset = lists pair offset_too_high (3 ∷ 3 ∷ []) (refusal 8) (3 ∷ 3 ∷ [])

-- Offset -8,589,934,593.
abbrev offset_too_low : Faces
offset_too_low = closed 1 (pos 1 ∷ []) (minus 8589934593 ∷ [])

-- 8 for an offset one too small.
abbrev pub list_refuses_low_offset : Row
list_refuses_low_offset = lists pair offset_too_low (3 ∷ 3 ∷ []) (refusal 8) (3 ∷ 3 ∷ [])

-- 9 last; the buffer stays.
abbrev pub list_refuses_order : Row
list_refuses_order = lists pair_swapped from_five (3 ∷ 4 ∷ []) (refusal 9) (3 ∷ 4 ∷ [])

-- A number twice.
abbrev number_twice : Shelf
number_twice = ordered pair (0 ∷ 0 ∷ [])

-- A number that is n.
abbrev number_of_n : Shelf
number_of_n = ordered pair (0 ∷ 2 ∷ [])

-- A number twice is not the tree,
abbrev pub arrange_number_twice : Row
arrange_number_twice = arranges number_twice anew (0 ∷ 1 ∷ [])

-- nor a number of n.
abbrev pub arrange_number_of_n : Row
arrange_number_of_n = arranges number_of_n anew (0 ∷ 1 ∷ [])

-- 1 before 3.
abbrev pub test_refuses_dimension : Row
test_refuses_dimension = tests 5 [] two_faces (untested 1)

-- 3 for a point that is not k long, before 5.
abbrev pub test_refuses_length : Row
test_refuses_length = tests 2 (pos 40000 ∷ []) two_faces (untested 3)

-- 5 before 6.
abbrev pub test_refuses_coordinate : Row
test_refuses_coordinate = tests 1 (pos 40000 ∷ []) too_many_faces (untested 5)

-- 6 before 7.
abbrev pub test_refuses_h : Row
test_refuses_h = tests 1 (pos 4 ∷ []) too_many_faces (untested 6)

-- 7 before 8.
abbrev pub test_refuses_normals : Row
test_refuses_normals = tests 1 (pos 4 ∷ []) wrong_normals (untested 7)

-- 8.
abbrev pub test_refuses_component : Row
test_refuses_component = tests 1 (pos 4 ∷ []) component_too_low (untested 8)

-- S(0, 3): the empty shelf.
abbrev pub sum_0_3 : Row
sum_0_3 = sums 0 3 0

-- Four faces on the plane: the zero face, one component, one negative component, two components.
abbrev four_faces : Faces
four_faces = closed 4 (pos 0 ∷ pos 0 ∷ pos 1 ∷ pos 0 ∷ pos 0 ∷ minus 3 ∷ pos 1 ∷ minus 1 ∷ []) (pos 0 ∷ pos 0 ∷ pos 0 ∷ pos 0 ∷ [])

-- At most one component is not zero.
abbrev pub square_faces : Row
square_faces = squares 2 four_faces (true ∷ true ∷ true ∷ false ∷ [])

-- n 65,535 passes as a number of points; the points are missing.
abbrev full_shelf : Shelf
full_shelf = shelf 1 65535 [] []

-- 65,535 is not too many.
abbrev pub arrange_takes_full_shelf : Row
arrange_takes_full_shelf = arranges full_shelf (unarranged 3) []

-- h 32 on a line, all zero faces.
abbrev most_faces : Faces
most_faces = closed 32 (replicate 32 (pos 0)) (replicate 32 (pos 0))

-- 32 faces are not too many.
abbrev pub list_takes_most_faces : Row
list_takes_most_faces = lists pair most_faces (9 ∷ 9 ∷ []) (counts 2 0 0) (0 ∷ 1 ∷ [])

-- 1 of a list call, before 2.
abbrev pub list_refuses_dimension : Row
list_refuses_dimension = lists five_dimensions from_five (3 ∷ []) (refusal 1) (3 ∷ [])

-- 3 of a list call, before 4.
abbrev pub list_refuses_points : Row
list_refuses_points = lists wrong_points from_five (3 ∷ []) (refusal 3) (3 ∷ [])

-- 4 of a list call for a short order, before 5.
abbrev pub list_refuses_short_order : Row
list_refuses_short_order = lists short_order from_five (3 ∷ 3 ∷ []) (refusal 4) (3 ∷ 3 ∷ [])

-- 2 of a list call, before 3.
abbrev pub list_refuses_n : Row
list_refuses_n = lists too_many from_five (3 ∷ []) (refusal 2) (3 ∷ [])

-- ---- the screen

-- From 3 to 7.
abbrev between : Faces
between = closed 2 (pos 1 ∷ minus 1 ∷ []) (pos 3 ∷ minus 7 ∷ [])

-- The screen of the two faces: number 2 in slot 3, after the open slots 1, 2 and 3 itself.
abbrev pub screen_two_faces : Row
screen_two_faces = screens shelf_a two_faces (finds 2 3)

-- Number 3 in slot 4. Slots 3 and 4 count; slot 5 is open and the node above slot 4, but stands after it.
abbrev pub screen_node_to_the_right : Row
screen_node_to_the_right = screens shelf_a right_of_five (finds 3 2)

-- All inside, a whole branch: its first slot, no visits.
abbrev pub screen_all : Row
screen_all = screens shelf_a right_of_one (finds 1 0)

-- None inside, no visits.
abbrev pub screen_none : Row
screen_none = screens shelf_a right_of_eight (finds_none 0)

-- No faces: the first slot.
abbrev pub screen_no_faces : Row
screen_no_faces = screens shelf_a no_faces (finds 1 0)

-- The last slot alone is inside: both slots are open.
abbrev pub screen_last_slot : Row
screen_last_slot = screens pair from_five (finds 1 2)

-- None inside, and every open slot is counted.
abbrev pub screen_between : Row
screen_between = screens pair between (finds_none 2)

-- The empty shelf has none.
abbrev pub screen_empty : Row
screen_empty = screens empty slanted_in_three (finds_none 0)

-- 1 of a screen, before 2.
abbrev pub screen_refuses_dimension : Row
screen_refuses_dimension = screens five_dimensions from_five (unscreened 1)

-- 2 of a screen, before 3.
abbrev pub screen_refuses_n : Row
screen_refuses_n = screens too_many from_five (unscreened 2)

-- 3 of a screen, before 4.
abbrev pub screen_refuses_points : Row
screen_refuses_points = screens wrong_points from_five (unscreened 3)

-- 4 of a screen, for a short order, before 5.
abbrev pub screen_refuses_short_order : Row
screen_refuses_short_order = screens short_order from_five (unscreened 4)

-- 5 of a screen, before 6.
abbrev pub screen_refuses_coordinate : Row
screen_refuses_coordinate = screens coordinate_too_high too_many_faces (unscreened 5)

-- 6 of a screen, before 7.
abbrev pub screen_refuses_h : Row
screen_refuses_h = screens pair too_many_faces (unscreened 6)

-- 7 of a screen, before 8.
abbrev pub screen_refuses_normals : Row
screen_refuses_normals = screens pair wrong_normals (unscreened 7)

-- 8 of a screen, before 9.
abbrev pub screen_refuses_component : Row
screen_refuses_component = screens pair_swapped component_too_low (unscreened 8)

-- 9 of a screen, last.
abbrev pub screen_refuses_order : Row
screen_refuses_order = screens pair_swapped from_five (unscreened 9)

-- ---- open faces

-- The two faces of the program's example, the second open.
abbrev two_faces_one_open : Faces
two_faces_one_open = faces 2 (pos 1 ∷ pos 1 ∷ minus 1 ∷ pos 0 ∷ []) (pos 7 ∷ minus 6 ∷ []) (0 ∷ 1 ∷ [])

-- Number 4 lies on the open face and is outside.
abbrev pub list_one_open_face : Row
list_one_open_face = lists shelf_a two_faces_one_open (0 ∷ 0 ∷ 0 ∷ 0 ∷ 0 ∷ 0 ∷ []) (counts 1 5 5) (2 ∷ 4 ∷ 3 ∷ 0 ∷ 5 ∷ 1 ∷ [])

-- Face (1, 1), m 6, open.
abbrev diagonal_open : Faces
diagonal_open = faces 1 (pos 1 ∷ pos 1 ∷ []) (pos 6 ∷ []) (1 ∷ [])

-- Numbers 0 and 1 lie on the face and are outside.
abbrev pub list_open_diagonal : Row
list_open_diagonal = lists shelf_a diagonal_open (0 ∷ 0 ∷ 0 ∷ 0 ∷ 0 ∷ 0 ∷ []) (counts 3 3 5) (2 ∷ 3 ∷ 4 ∷ 0 ∷ 5 ∷ 1 ∷ [])

-- The corner (4, 2) of slot 0's box lies on the face, so the box is wholly below it.
abbrev pub open_diagonal_settles_slot_0 : Row
open_diagonal_settles_slot_0 = opens shelf_a diagonal_open (false ∷ true ∷ true ∷ true ∷ true ∷ true ∷ [])

-- The mirror of the closed face (1, 1), m 6.
abbrev diagonal_mirrored : Faces
diagonal_mirrored = with_face no_faces (mirror (record { normal = pos 1 ∷ pos 1 ∷ []; offset = pos 6; mark = 0 }))

-- The other bin along the closed face has what that one leaves, number 5, and the same visits.
abbrev pub list_mirrored_diagonal : Row
list_mirrored_diagonal = lists shelf_a diagonal_mirrored (0 ∷ 0 ∷ 0 ∷ 0 ∷ 0 ∷ 0 ∷ []) (counts 1 5 6) (5 ∷ 4 ∷ 3 ∷ 2 ∷ 0 ∷ 1 ∷ [])

-- Face (1, 0), m 1, open.
abbrev right_of_one_open : Faces
right_of_one_open = faces 1 (pos 1 ∷ pos 0 ∷ []) (pos 1 ∷ []) (1 ∷ [])

-- Number 0 lies on the face and is outside.
abbrev pub list_open_root_corner : Row
list_open_root_corner = lists shelf_a right_of_one_open (0 ∷ 0 ∷ 0 ∷ 0 ∷ 0 ∷ 0 ∷ []) (counts 5 1 4) (1 ∷ 5 ∷ 2 ∷ 3 ∷ 4 ∷ 0 ∷ [])

-- A corner of the root box lies on the face, so it is not wholly above it, nor are the boxes of slots 0, 1 and 2.
abbrev pub open_root_corner : Row
open_root_corner = opens shelf_a right_of_one_open (true ∷ true ∷ true ∷ true ∷ false ∷ false ∷ [])

-- The screen of it: number 1 in slot 0, which is open.
abbrev pub screen_open_root_corner : Row
screen_open_root_corner = screens shelf_a right_of_one_open (finds 1 1)

-- Face (1, 0), m 7.
abbrev right_of_seven : Faces
right_of_seven = closed 1 (pos 1 ∷ pos 0 ∷ []) (pos 7 ∷ [])

-- The greatest coordinate lies on the closed face: number 3 in slot 4, after slot 3.
abbrev pub screen_on_closed_face : Row
screen_on_closed_face = screens shelf_a right_of_seven (finds 3 2)

-- The same, open.
abbrev right_of_seven_open : Faces
right_of_seven_open = faces 1 (pos 1 ∷ pos 0 ∷ []) (pos 7 ∷ []) (1 ∷ [])

-- The root box is wholly below the open face: none, no visits.
abbrev pub screen_on_open_face : Row
screen_on_open_face = screens shelf_a right_of_seven_open (finds_none 0)

-- A point on a closed face is inside.
abbrev pub test_on_closed_face : Row
test_on_closed_face = tests 2 (pos 7 ∷ pos 1 ∷ []) right_of_seven (measures 1 0 (pos 0))

-- A point on an open face is outside.
abbrev pub test_on_open_face : Row
test_on_open_face = tests 2 (pos 7 ∷ pos 1 ∷ []) right_of_seven_open (measures 0 0 (pos 0))

-- One more is inside.
abbrev pub test_past_open_face : Row
test_past_open_face = tests 2 (pos 8 ∷ pos 1 ∷ []) right_of_seven_open (measures 1 0 (pos 1))

-- The zero face with m 0, open: its sum is 0, which is not greater.
abbrev zero_face_open : Faces
zero_face_open = faces 1 (pos 0 ∷ pos 0 ∷ []) (pos 0 ∷ []) (1 ∷ [])

-- None is above the open zero face.
abbrev pub list_open_zero_face : Row
list_open_zero_face = lists one zero_face_open (3 ∷ []) (counts 0 1 0) (0 ∷ [])

-- No mark for the one face.
abbrev mark_missing : Faces
mark_missing = faces 1 (pos 1 ∷ []) (pos 5 ∷ []) []

-- 11 for a mark too few, before 9.
abbrev pub list_refuses_missing_mark : Row
list_refuses_missing_mark = lists pair_swapped mark_missing (3 ∷ 3 ∷ []) (refusal 11) (3 ∷ 3 ∷ [])

-- A mark too many.
abbrev mark_too_many : Faces
mark_too_many = faces 1 (pos 1 ∷ []) (pos 5 ∷ []) (0 ∷ 0 ∷ [])

-- 11 for a mark too many.
abbrev pub list_refuses_extra_mark : Row
list_refuses_extra_mark = lists pair mark_too_many (3 ∷ 3 ∷ []) (refusal 11) (3 ∷ 3 ∷ [])

-- Mark 2.
abbrev mark_two : Faces
mark_two = faces 1 (pos 1 ∷ []) (pos 5 ∷ []) (2 ∷ [])

-- 11 for another mark than 0 and 1.
abbrev pub list_refuses_mark : Row
list_refuses_mark = lists pair mark_two (3 ∷ 3 ∷ []) (refusal 11) (3 ∷ 3 ∷ [])

-- Offset 8,589,934,593, and mark 2.
abbrev offset_and_mark : Faces
offset_and_mark = faces 1 (pos 1 ∷ []) (pos 8589934593 ∷ []) (2 ∷ [])

-- 8 before 11.
abbrev pub list_refuses_offset_before_mark : Row
list_refuses_offset_before_mark = lists pair offset_and_mark (3 ∷ 3 ∷ []) (refusal 8) (3 ∷ 3 ∷ [])

-- 11 of a screen, before 9.
abbrev pub screen_refuses_mark : Row
screen_refuses_mark = screens pair_swapped mark_two (unscreened 11)

-- 8 of a screen, before 11.
abbrev pub screen_refuses_offset_before_mark : Row
screen_refuses_offset_before_mark = screens pair offset_and_mark (unscreened 8)

-- 11 of a test of one point, last.
abbrev pub test_refuses_mark : Row
test_refuses_mark = tests 1 (pos 4 ∷ []) mark_two (untested 11)

-- 8 of a test of one point, before 11.
abbrev pub test_refuses_offset_before_mark : Row
test_refuses_offset_before_mark = tests 1 (pos 4 ∷ []) offset_and_mark (untested 8)

-- ---- margins

-- With no faces the point is inside, and nothing is measured.
abbrev pub test_no_faces : Row
test_no_faces = tests 2 (pos 1 ∷ pos 5 ∷ []) no_faces (record { code = 0; inside = 1; measured = 0; face = 0; margin = pos 0 })

-- Both margins are 2: the lower-numbered face is named.
abbrev pub margin_tie : Row
margin_tie = tests 2 (pos 4 ∷ pos 5 ∷ []) two_faces (measures 1 0 (pos 2))

-- Margins 4 and 1.
abbrev pub margin_second_face : Row
margin_second_face = tests 2 (pos 5 ∷ pos 6 ∷ []) two_faces (measures 1 1 (pos 1))

-- Margins -1 and -2: below the first face already, and the second is asked too.
abbrev pub margin_past_a_face_below : Row
margin_past_a_face_below = tests 2 (pos 8 ∷ minus 2 ∷ []) two_faces (measures 0 1 (minus 2))

-- A closed face and its mirror, open: x at least 7, and less than 7.
abbrev closed_and_mirror : Faces
closed_and_mirror = with_face right_of_seven (mirror (record { normal = pos 1 ∷ pos 0 ∷ []; offset = pos 7; mark = 0 }))

-- Margin 0 to both: below the open one, and the lower-numbered face is named, the closed one.
abbrev pub margin_zero_closed_and_open : Row
margin_zero_closed_and_open = tests 2 (pos 7 ∷ pos 1 ∷ []) closed_and_mirror (measures 0 0 (pos 0))

-- The face furthest above a point, in four dimensions.
abbrev furthest_above : Faces
furthest_above = closed 1 (pos 32767 ∷ pos 32767 ∷ pos 32767 ∷ pos 32767 ∷ []) (pos 8589934592 ∷ [])

-- The face furthest below it.
abbrev furthest_below : Faces
furthest_below = closed 1 (minus 32767 ∷ minus 32767 ∷ minus 32767 ∷ minus 32767 ∷ []) (minus 8589934592 ∷ [])

-- The least margin that there is.
abbrev pub margin_least_of_all : Row
margin_least_of_all = tests 4 (minus 32768 ∷ minus 32768 ∷ minus 32768 ∷ minus 32768 ∷ []) furthest_above (measures 0 0 (minus 12884770816))

-- The greatest margin that there is.
abbrev pub margin_greatest_of_all : Row
margin_greatest_of_all = tests 4 (minus 32768 ∷ minus 32768 ∷ minus 32768 ∷ minus 32768 ∷ []) furthest_below (measures 1 0 (pos 12884770816))

-- ---- points from readings

-- The float that has these bits.
abbrev float : ℕ → Float
float bits = of_bits binary32 bits

-- 1.
abbrev float_one : Float
float_one = float 1065353216

-- 1/2.
abbrev half : Float
half = float 1056964608

-- -1/2.
abbrev minus_half : Float
minus_half = float 3204448256

-- Negative zero.
abbrev minus_zero : Float
minus_zero = float 2147483648

-- The negative float nearest zero.
abbrev last_below_zero : Float
last_below_zero = float 2147483649

-- 1 1/2 of a 256th.
abbrev one_and_a_half : Float
one_and_a_half = float 1002438656

-- -1 1/2 of a 256th.
abbrev minus_one_and_a_half : Float
minus_one_and_a_half = float 3149922304

-- The largest float below 128.
abbrev last_below128 : Float
last_below128 = float 1124073471

-- 128.
abbrev float128 : Float
float128 = float 1124073472

-- -128.
abbrev minus128 : Float
minus128 = float 3271557120

-- The next float below -128.
abbrev next_below_minus128 : Float
next_below_minus128 = float 3271557121

-- Infinity, and the same with a minus.
abbrev infinite : Float
infinite = float 2139095040

abbrev minus_infinite : Float
minus_infinite = float 4286578688

-- No number.
abbrev not_a_number : Float
not_a_number = float 2143289344

-- The answer of a call that made a point, that made none, or that is refused.
abbrev made : Making
made = record { code = 0; made = 1 }

abbrev made_none : Making
made_none = record { code = 0; made = 0 }

abbrev unmade : ℕ → Making
unmade c = record { code = c; made = 0 }

-- Each value times 256.
abbrev pub colour_makes_a_point : Row
colour_makes_a_point = makes (colour float_one half minus_half) (pos 7 ∷ pos 8 ∷ pos 9 ∷ []) made (pos 256 ∷ pos 128 ∷ minus 128 ∷ [])

-- A grey's number, then 0 and 0.
abbrev pub grey_makes_a_point : Row
grey_makes_a_point = makes (grey float_one) (pos 7 ∷ pos 8 ∷ pos 9 ∷ []) made (pos 256 ∷ pos 0 ∷ pos 0 ∷ [])

-- 1 1/2 and -1 1/2 go down to 1 and -2; half of 256 is whole.
abbrev pub colour_between_two_numbers : Row
colour_between_two_numbers = makes (colour one_and_a_half minus_one_and_a_half half) (pos 7 ∷ pos 8 ∷ pos 9 ∷ []) made (pos 1 ∷ minus 2 ∷ pos 128 ∷ [])

-- Negative zero gives 0.
abbrev pub grey_minus_zero : Row
grey_minus_zero = makes (grey minus_zero) (pos 7 ∷ pos 8 ∷ pos 9 ∷ []) made (pos 0 ∷ pos 0 ∷ pos 0 ∷ [])

-- The negative float nearest zero gives -1.
abbrev pub grey_last_below_zero : Row
grey_last_below_zero = makes (grey last_below_zero) (pos 7 ∷ pos 8 ∷ pos 9 ∷ []) made (minus 1 ∷ pos 0 ∷ pos 0 ∷ [])

-- The largest float below 128 is 32,767 and more, but not 32,768.
abbrev pub grey_last_below_128 : Row
grey_last_below_128 = makes (grey last_below128) (pos 7 ∷ pos 8 ∷ pos 9 ∷ []) made (pos 32767 ∷ pos 0 ∷ pos 0 ∷ [])

-- -128 is in range.
abbrev pub grey_minus_128 : Row
grey_minus_128 = makes (grey minus128) (pos 7 ∷ pos 8 ∷ pos 9 ∷ []) made (minus 32768 ∷ pos 0 ∷ pos 0 ∷ [])

-- The greatest and the least coordinate, and -1.
abbrev pub colour_of_extremes : Row
colour_of_extremes = makes (colour last_below128 minus128 last_below_zero) (pos 7 ∷ pos 8 ∷ pos 9 ∷ []) made (pos 32767 ∷ minus 32768 ∷ minus 1 ∷ [])

-- 128 is not.
abbrev pub grey_refuses_128 : Row
grey_refuses_128 = makes (grey float128) (pos 7 ∷ pos 8 ∷ pos 9 ∷ []) (unmade 12) (pos 7 ∷ pos 8 ∷ pos 9 ∷ [])

-- Nor is what is below -128.
abbrev pub grey_refuses_below_minus_128 : Row
grey_refuses_below_minus_128 = makes (grey next_below_minus128) (pos 7 ∷ pos 8 ∷ pos 9 ∷ []) (unmade 12) (pos 7 ∷ pos 8 ∷ pos 9 ∷ [])

-- What is not finite.
abbrev pub grey_refuses_infinite : Row
grey_refuses_infinite = makes (grey infinite) (pos 7 ∷ pos 8 ∷ pos 9 ∷ []) (unmade 12) (pos 7 ∷ pos 8 ∷ pos 9 ∷ [])

abbrev pub grey_refuses_minus_infinite : Row
grey_refuses_minus_infinite = makes (grey minus_infinite) (pos 7 ∷ pos 8 ∷ pos 9 ∷ []) (unmade 12) (pos 7 ∷ pos 8 ∷ pos 9 ∷ [])

abbrev pub grey_refuses_no_number : Row
grey_refuses_no_number = makes (grey not_a_number) (pos 7 ∷ pos 8 ∷ pos 9 ∷ []) (unmade 12) (pos 7 ∷ pos 8 ∷ pos 9 ∷ [])

-- One value that is bad, the first, the second or the last: all three places stay.
abbrev pub colour_refuses_first : Row
colour_refuses_first = makes (colour not_a_number float_one half) (pos 7 ∷ pos 8 ∷ pos 9 ∷ []) (unmade 12) (pos 7 ∷ pos 8 ∷ pos 9 ∷ [])

abbrev pub colour_refuses_second : Row
colour_refuses_second = makes (colour float_one infinite half) (pos 7 ∷ pos 8 ∷ pos 9 ∷ []) (unmade 12) (pos 7 ∷ pos 8 ∷ pos 9 ∷ [])

abbrev pub colour_refuses_last : Row
colour_refuses_last = makes (colour float_one half float128) (pos 7 ∷ pos 8 ∷ pos 9 ∷ []) (unmade 12) (pos 7 ∷ pos 8 ∷ pos 9 ∷ [])

-- Nothing measured: no point, and the places stay.
abbrev pub nothing_makes_none : Row
nothing_makes_none = makes nothing (pos 7 ∷ pos 8 ∷ pos 9 ∷ []) made_none (pos 7 ∷ pos 8 ∷ pos 9 ∷ [])

-- Two places, and a value out of range: 3 comes first.
abbrev pub colour_refuses_length : Row
colour_refuses_length = makes (colour float_one half float128) (pos 7 ∷ pos 8 ∷ []) (unmade 3) (pos 7 ∷ pos 8 ∷ [])

-- Four places, and no number.
abbrev pub grey_refuses_length : Row
grey_refuses_length = makes (grey not_a_number) (pos 7 ∷ pos 8 ∷ pos 9 ∷ pos 10 ∷ []) (unmade 3) (pos 7 ∷ pos 8 ∷ pos 9 ∷ pos 10 ∷ [])

-- 3 for nothing measured too.
abbrev pub nothing_refuses_length : Row
nothing_refuses_length = makes nothing [] (unmade 3) []

-- ---- the reasons

-- Faces (1, 0), m 2 and (1, 0), m 5: the left branch of A is wholly below the second alone.
abbrev two_and_five : Faces
two_and_five = closed 2 (pos 1 ∷ pos 0 ∷ pos 1 ∷ pos 0 ∷ []) (pos 2 ∷ pos 5 ∷ [])

-- Faces (1, 0), m 5 and (1, 0), m 6: it is wholly below both.
abbrev pub five_and_six : Faces
five_and_six = closed 2 (pos 1 ∷ pos 0 ∷ pos 1 ∷ pos 0 ∷ []) (pos 5 ∷ pos 6 ∷ [])

-- Faces (1, 1), m 7 and (1, 1), m 8: it is open.
abbrev two_diagonals : Faces
two_diagonals = closed 2 (pos 1 ∷ pos 1 ∷ pos 1 ∷ pos 1 ∷ []) (pos 7 ∷ pos 8 ∷ [])

-- A with the two faces: number 1 stands in slot 0, whose box x 1..4, y 1..2 is wholly below x + y = 7; its own sum is 6.
abbrev pub explain_whole_branch_below : Row
explain_whole_branch_below = explains shelf_a two_faces 1 (outside_because 3 0 0 (minus 1))

-- Number 5 is the node of an open branch, with sum 4.
abbrev pub explain_own_test_below : Row
explain_own_test_below = explains shelf_a two_faces 5 (outside_because 4 1 0 (minus 3))

-- Number 2 is the root, which is open, and inside.
abbrev pub explain_own_test_inside : Row
explain_own_test_inside = explains shelf_a two_faces 2 (inside_because 2 3)

-- Number 3, (7, 1), is above the first face and below the second.
abbrev pub explain_own_test_second_face : Row
explain_own_test_second_face = explains shelf_a two_faces 3 (outside_because 4 4 1 (minus 1))

-- Face (1, 0), m 5: numbers 1 and 0 go out with the left branch, whose node stands in slot 1.
abbrev pub explain_names_the_node : Row
explain_names_the_node = explains shelf_a right_of_five 1 (outside_because 3 1 0 (minus 1))

-- The margin is the picture's own.
abbrev pub explain_own_margin : Row
explain_own_margin = explains shelf_a right_of_five 0 (outside_because 3 1 0 (minus 4))

-- Number 3 in the right branch, which is open, as its own is.
abbrev pub explain_open_branch_inside : Row
explain_open_branch_inside = explains shelf_a right_of_five 3 (inside_because 2 4)

-- m 1: the root is settled, and it is the nearest of all settled branches.
abbrev pub explain_whole_shelf_inside : Row
explain_whole_shelf_inside = explains shelf_a right_of_one 1 (inside_because 1 3)

-- m 8: number 3 is below by 1.
abbrev pub explain_whole_shelf_outside : Row
explain_whole_shelf_outside = explains shelf_a right_of_eight 3 (outside_because 3 3 0 (minus 1))

-- The right branch is wholly above the open face x = 1, the root is not: its node stands in slot 5, the picture in slot 4.
abbrev pub explain_branch_inside : Row
explain_branch_inside = explains shelf_a right_of_one_open 3 (inside_because 1 5)

-- On an open face with the whole shelf: below it by 0.
abbrev pub explain_whole_shelf_on_an_open_face : Row
explain_whole_shelf_on_an_open_face = explains shelf_a right_of_seven_open 3 (outside_because 3 3 0 (pos 0))

-- No faces: inside with the root.
abbrev pub explain_no_faces : Row
explain_no_faces = explains shelf_a no_faces 4 (inside_because 1 3)

-- Number 0, (1, 5), is below both faces, and its branch's box wholly below the second alone.
abbrev pub explain_face_of_the_box : Row
explain_face_of_the_box = explains shelf_a two_and_five 0 (outside_because 3 1 1 (minus 4))

-- The lowest of the two that the box is wholly below.
abbrev pub explain_lowest_face_of_the_box : Row
explain_lowest_face_of_the_box = explains shelf_a five_and_six 1 (outside_because 3 1 0 (minus 1))

-- The lowest of the two that the point is below.
abbrev pub explain_lowest_face_of_the_point : Row
explain_lowest_face_of_the_point = explains shelf_a two_diagonals 5 (outside_because 4 1 0 (minus 3))

-- Number 0 lies on an open face: below it by 0.
abbrev pub explain_on_an_open_face : Row
explain_on_an_open_face = explains shelf_a diagonal_open 0 (outside_because 4 2 0 (pos 0))

-- On a closed one it is inside.
abbrev pub explain_on_a_closed_face : Row
explain_on_a_closed_face = explains shelf_a diagonal 0 (inside_because 2 2)

-- Places from v on are not read.
abbrev pub explain_longer_order : Row
explain_longer_order = explains shelf_a_longer two_faces 1 (outside_because 3 0 0 (minus 1))

-- 1 before 2.
abbrev pub explain_refuses_dimension : Row
explain_refuses_dimension = explains five_dimensions from_five 9 (unexplained 1)

-- 2 before the points.
abbrev pub explain_refuses_n : Row
explain_refuses_n = explains too_many from_five 9 (unexplained 2)

-- 3 before the order.
abbrev pub explain_refuses_points : Row
explain_refuses_points = explains wrong_points from_five 9 (unexplained 3)

-- 4 for the order.
abbrev pub explain_refuses_short_order : Row
explain_refuses_short_order = explains short_order from_five 9 (unexplained 4)

-- 5 before the faces.
abbrev pub explain_refuses_coordinate : Row
explain_refuses_coordinate = explains coordinate_too_high too_many_faces 9 (unexplained 5)

-- 6 before the number.
abbrev pub explain_refuses_h : Row
explain_refuses_h = explains pair too_many_faces 2 (unexplained 6)

-- 7 before the number.
abbrev pub explain_refuses_normals : Row
explain_refuses_normals = explains pair wrong_normals 2 (unexplained 7)

-- 8 before the order.
abbrev pub explain_refuses_component : Row
explain_refuses_component = explains pair_swapped component_too_low 2 (unexplained 8)

-- 8 before 11.
abbrev pub explain_refuses_offset_before_mark : Row
explain_refuses_offset_before_mark = explains pair offset_and_mark 2 (unexplained 8)

-- 11 before the order and the number.
abbrev pub explain_refuses_mark : Row
explain_refuses_mark = explains pair_swapped mark_two 2 (unexplained 11)

-- A wrong order is 9 even for such a number.
abbrev pub explain_refuses_order : Row
explain_refuses_order = explains pair_swapped from_five 2 (unexplained 9)

-- A number of n.
abbrev pub explain_refuses_number : Row
explain_refuses_number = explains pair from_five 2 (unexplained 17)

-- The empty shelf has no number.
abbrev pub explain_refuses_number_of_none : Row
explain_refuses_number_of_none = explains empty slanted_in_three 0 (unexplained 17)

-- By the four cases, m 8: number 1 goes out with the root, though its own branch and the left one are settled too.
abbrev pub reason_nearest_the_root : Row
reason_nearest_the_root = reasons shelf_a right_of_eight 1 (OutsideWithBranch 3 0 (minus 4))

-- m 1: number 1 is inside with the root.
abbrev pub reason_inside_with_branch : Row
reason_inside_with_branch = reasons shelf_a right_of_one 1 (InsideWithBranch 3)

-- Points 0 and 10 and the face 1, m 5: both branches are open. Number 1 is inside by its own test, number 0 outside.
abbrev pub reason_inside_by_itself : Row
reason_inside_by_itself = reasons pair from_five 1 (InsideByItself 1)

abbrev pub reason_outside_by_itself : Row
reason_outside_by_itself = reasons pair from_five 0 (OutsideByItself 0 0 (minus 5))

-- The left branch is wholly below two faces, the root is open: the lowest face.
abbrev pub reason_lowest_face : Row
reason_lowest_face = reasons shelf_a five_and_six 1 (OutsideWithBranch 1 0 (minus 1))

-- ---- several regions

-- Regions whose faces are all closed.
abbrev closed_regions : ℕ → List ℕ → List ℤ → List ℤ → Regions
closed_regions count face_counts normals offsets = regions count face_counts normals offsets (replicate (length offsets) 0)

-- A call on several regions that is refused: both buffers stay.
abbrev refuses_regions : Shelf → Regions → (list_buffer counts_buffer : List ℕ) (answer : ℕ) → Row
refuses_regions s g list_buffer counts_buffer answer = lists_regions s g list_buffer counts_buffer answer list_buffer counts_buffer

-- The two faces of example 2, no faces as in example 6, and the face of example 3.
abbrev three_regions : Regions
three_regions = closed_regions 3 (2 ∷ 0 ∷ 1 ∷ []) (pos 1 ∷ pos 1 ∷ minus 1 ∷ pos 0 ∷ pos 1 ∷ pos 0 ∷ []) (pos 7 ∷ minus 6 ∷ pos 5 ∷ [])

-- Region after region what those examples give; the later places of both buffers stay, and those of the order are not read.
abbrev pub regions_three : Row
regions_three = lists_regions shelf_a_longer three_regions (replicate 19 9) (replicate 10 8) 0
    (2 ∷ 4 ∷ 3 ∷ 0 ∷ 5 ∷ 1 ∷ 1 ∷ 5 ∷ 0 ∷ 2 ∷ 3 ∷ 4 ∷ 3 ∷ 4 ∷ 2 ∷ 0 ∷ 5 ∷ 1 ∷ 9 ∷ [])
    (2 ∷ 4 ∷ 5 ∷ 6 ∷ 0 ∷ 0 ∷ 2 ∷ 4 ∷ 3 ∷ 8 ∷ [])

-- One region alone.
abbrev pub regions_one : Row
regions_one = lists_regions pair (closed_regions 1 (1 ∷ []) (pos 1 ∷ []) (pos 5 ∷ [])) (7 ∷ 7 ∷ []) (7 ∷ 7 ∷ 7 ∷ []) 0 (1 ∷ 0 ∷ []) (1 ∷ 1 ∷ 2 ∷ [])

-- Face 1, m 10, closed in the first region and open in the second.
abbrev same_face_twice : Regions
same_face_twice = regions 2 (1 ∷ 1 ∷ []) (pos 1 ∷ pos 1 ∷ []) (pos 10 ∷ pos 10 ∷ []) (0 ∷ 1 ∷ [])

-- The point on the face is inside the first and outside the second, whose root box is wholly below.
abbrev pub regions_with_marks : Row
regions_with_marks = lists_regions pair same_face_twice (7 ∷ 7 ∷ 7 ∷ 7 ∷ []) (replicate 6 7) 0 (1 ∷ 0 ∷ 1 ∷ 0 ∷ []) (1 ∷ 1 ∷ 2 ∷ 0 ∷ 2 ∷ 0 ∷ [])

-- 64 regions are not too many; of the empty shelf each counts nothing.
abbrev pub regions_most : Row
regions_most = lists_regions empty (closed_regions 64 (replicate 64 0) [] []) [] (replicate 192 7) 0 [] (replicate 192 0)

-- 32 faces a region are not too many, though together they are 64: zero faces with m 0, above which every point is.
abbrev pub regions_most_faces : Row
regions_most_faces = lists_regions pair (closed_regions 2 (32 ∷ 32 ∷ []) (replicate 64 (pos 0)) (replicate 64 (pos 0))) (replicate 4 7) (replicate 6 7) 0
    (0 ∷ 1 ∷ 0 ∷ 1 ∷ []) (2 ∷ 0 ∷ 0 ∷ 2 ∷ 0 ∷ 0 ∷ [])

-- 65 regions are.
abbrev pub regions_refuse_65 : Row
regions_refuse_65 = refuses_regions empty (closed_regions 65 (replicate 65 0) [] []) [] (replicate 195 7) 14

-- No regions.
abbrev no_regions : Regions
no_regions = closed_regions 0 [] [] []

-- No regions are too few.
abbrev pub regions_refuse_none : Row
regions_refuse_none = refuses_regions pair no_regions (7 ∷ 7 ∷ []) (7 ∷ 7 ∷ 7 ∷ []) 14

-- Two regions with one face count.
abbrev count_missing : Regions
count_missing = closed_regions 2 (0 ∷ []) [] []

-- 14 for a face count too few, before 4 for short buffers.
abbrev pub regions_refuse_count_before_room : Row
regions_refuse_count_before_room = refuses_regions pair count_missing [] [] 14

-- 14 for a face count too many.
abbrev pub regions_refuse_extra_count : Row
regions_refuse_extra_count = refuses_regions pair (closed_regions 1 (0 ∷ 0 ∷ []) [] []) (replicate 4 7) (replicate 6 7) 14

-- 1 of a call on several regions, before 2.
abbrev pub regions_refuse_dimension : Row
regions_refuse_dimension = refuses_regions five_dimensions no_regions [] [] 1

-- 2 of a call on several regions, before 3.
abbrev pub regions_refuse_n : Row
regions_refuse_n = refuses_regions too_many no_regions [] [] 2

-- 3 before 14.
abbrev pub regions_refuse_points_before_count : Row
regions_refuse_points_before_count = refuses_regions wrong_points no_regions [] [] 3

-- One region with 33 faces, none of which is lent.
abbrev too_many_in_one : Regions
too_many_in_one = closed_regions 1 (33 ∷ []) [] []

-- 4 for a short order, before 5.
abbrev pub regions_refuse_short_order : Row
regions_refuse_short_order = refuses_regions short_order too_many_in_one (7 ∷ 7 ∷ []) (7 ∷ 7 ∷ 7 ∷ []) 4

-- 4 for a list buffer one place short of n a region, before 5.
abbrev pub regions_refuse_short_lists : Row
regions_refuse_short_lists = refuses_regions coordinate_too_high too_many_in_one (7 ∷ []) (7 ∷ 7 ∷ 7 ∷ []) 4

-- 4 for a counts buffer one place short of 3 a region, before 5.
abbrev pub regions_refuse_short_counts : Row
regions_refuse_short_counts = refuses_regions coordinate_too_high too_many_in_one (7 ∷ 7 ∷ []) (7 ∷ 7 ∷ []) 4

-- 5 before 6.
abbrev pub regions_refuse_coordinate : Row
regions_refuse_coordinate = refuses_regions coordinate_too_high too_many_in_one (7 ∷ 7 ∷ []) (7 ∷ 7 ∷ 7 ∷ []) 5

-- 6 for the second region alone, before 7.
abbrev pub regions_refuse_h : Row
regions_refuse_h = refuses_regions pair (closed_regions 2 (0 ∷ 33 ∷ []) [] []) (replicate 4 7) (replicate 6 7) 6

-- 6 for face counts whose sum would be 0 if it were taken in 32 bits.
abbrev pub regions_refuse_h_unsummed : Row
regions_refuse_h_unsummed = refuses_regions pair (closed_regions 2 (2147483648 ∷ 2147483648 ∷ []) [] []) (replicate 4 7) (replicate 6 7) 6

-- 7 for joined normals that are one short, before 8.
abbrev pub regions_refuse_normals : Row
regions_refuse_normals = refuses_regions pair (closed_regions 2 (1 ∷ 1 ∷ []) (pos 1 ∷ []) (pos 9000000000 ∷ pos 5 ∷ [])) (replicate 4 7) (replicate 6 7) 7

-- 7 for a joined offset too many.
abbrev pub regions_refuse_offsets : Row
regions_refuse_offsets = refuses_regions pair (closed_regions 2 (1 ∷ 0 ∷ []) (pos 1 ∷ []) (pos 5 ∷ pos 5 ∷ [])) (replicate 4 7) (replicate 6 7) 7

-- 8 for a component of the second region, before 11.
abbrev pub regions_refuse_component : Row
regions_refuse_component = refuses_regions pair (regions 2 (1 ∷ 1 ∷ []) (pos 1 ∷ pos 32768 ∷ []) (pos 5 ∷ pos 5 ∷ []) []) (replicate 4 7) (replicate 6 7) 8

-- 11 for a mark of the second region, before 9.
abbrev pub regions_refuse_mark : Row
regions_refuse_mark = refuses_regions pair_swapped (regions 2 (1 ∷ 1 ∷ []) (pos 1 ∷ pos 1 ∷ []) (pos 5 ∷ pos 5 ∷ []) (0 ∷ 2 ∷ [])) (replicate 4 7) (replicate 6 7) 11

-- 11 for a joined mark too few.
abbrev pub regions_refuse_missing_mark : Row
regions_refuse_missing_mark = refuses_regions pair (regions 2 (1 ∷ 1 ∷ []) (pos 1 ∷ pos 1 ∷ []) (pos 5 ∷ pos 5 ∷ []) (0 ∷ [])) (replicate 4 7) (replicate 6 7) 11

-- 9 last; both buffers stay.
abbrev pub regions_refuse_order : Row
regions_refuse_order = refuses_regions pair_swapped same_face_twice (replicate 5 7) (replicate 7 8) 9

-- ---- live bytes
-- Numbers 1 and 4 of six are dead.
abbrev pub live_some : Row
live_some = lives 6 (1 ∷ 0 ∷ 1 ∷ 1 ∷ 0 ∷ 1 ∷ []) (0 ∷ 2 ∷ 3 ∷ 5 ∷ []) 4 1

-- With all bytes 1 no number is dead: the lowest would be n.
abbrev pub live_all : Row
live_all = lives 3 (1 ∷ 1 ∷ 1 ∷ []) (0 ∷ 1 ∷ 2 ∷ []) 3 3

abbrev pub live_none : Row
live_none = lives 2 (0 ∷ 0 ∷ []) [] 0 0

-- A byte that is neither 0 nor 1 makes no number live.
abbrev pub live_other_byte : Row
live_other_byte = lives 2 (2 ∷ 1 ∷ []) (1 ∷ []) 1 0

-- A number from n on is not live, whatever stands there.
abbrev pub live_below_n : Row
live_below_n = lives 1 (1 ∷ 1 ∷ []) (0 ∷ []) 1 1

-- A dead number's coordinate may be any, a live number's may not.
abbrev pub range_of_the_dead : Row
range_of_the_dead = in_ranges 2 2 (pos 7 ∷ minus 32768 ∷ pos 32768 ∷ pos 5 ∷ []) (1 ∷ 0 ∷ []) true

abbrev pub range_of_the_live : Row
range_of_the_live = in_ranges 2 2 (pos 7 ∷ minus 32768 ∷ pos 32768 ∷ pos 5 ∷ []) (0 ∷ 1 ∷ []) false

-- Shelf A with number 2 withdrawn, its coordinates any 32-bit numbers, in an order with a place more than live numbers.
abbrev withdrawn_a : Shelf
withdrawn_a = shelf_with 2 6 (pos 1 ∷ pos 5 ∷ pos 4 ∷ pos 2 ∷ pos 2147483647 ∷ minus 2147483648 ∷ pos 7 ∷ pos 1 ∷ pos 6 ∷ pos 6 ∷ pos 2 ∷ pos 2 ∷ []) (1 ∷ 1 ∷ 0 ∷ 1 ∷ 1 ∷ 1 ∷ []) (5 ∷ 0 ∷ 1 ∷ 3 ∷ 4 ∷ 77 ∷ [])

-- The same, not arranged.
abbrev any_withdrawn_a : Shelf
any_withdrawn_a = ordered withdrawn_a (9 ∷ 9 ∷ 9 ∷ 9 ∷ 9 ∷ 77 ∷ [])

-- The tree of the five live points; the place from v on stays.
abbrev pub dead_arrange : Row
dead_arrange = arranges any_withdrawn_a anew (5 ∷ 0 ∷ 1 ∷ 3 ∷ 4 ∷ 77 ∷ [])

-- It is found so, whatever stands in the place from v on.
abbrev pub dead_already : Row
dead_already = arranges withdrawn_a already withdrawn_a.arranged.slots

-- The order of before holds the withdrawn number in its first v places.
abbrev pub dead_old_order : Row
dead_old_order = arranges (ordered withdrawn_a (1 ∷ 5 ∷ 0 ∷ 2 ∷ 3 ∷ 4 ∷ [])) anew (5 ∷ 0 ∷ 1 ∷ 3 ∷ 4 ∷ 4 ∷ [])

-- An order of live numbers that is not their tree.
abbrev pub dead_swapped : Row
dead_swapped = arranges (ordered withdrawn_a (0 ∷ 5 ∷ 1 ∷ 3 ∷ 4 ∷ 77 ∷ [])) anew (5 ∷ 0 ∷ 1 ∷ 3 ∷ 4 ∷ 77 ∷ [])

-- A number of n in the first v places.
abbrev pub dead_number_of_n : Row
dead_number_of_n = arranges (ordered withdrawn_a (5 ∷ 0 ∷ 1 ∷ 3 ∷ 6 ∷ 4 ∷ [])) anew (5 ∷ 0 ∷ 1 ∷ 3 ∷ 4 ∷ 4 ∷ [])

-- A number taken since stands in no place: with all live the first six places are not the tree.
abbrev pub taken_old_order : Row
taken_old_order = arranges (ordered shelf_a (5 ∷ 0 ∷ 1 ∷ 3 ∷ 4 ∷ 77 ∷ [])) anew (1 ∷ 5 ∷ 0 ∷ 2 ∷ 3 ∷ 4 ∷ [])

-- The two faces: number 4 is inside and the other four outside, backwards from place v - 1; the place from v on stays.
abbrev pub dead_list : Row
dead_list = lists withdrawn_a two_faces (8 ∷ 8 ∷ 8 ∷ 8 ∷ 8 ∷ 80 ∷ []) (counts 1 4 5) (4 ∷ 3 ∷ 1 ∷ 0 ∷ 5 ∷ 80 ∷ [])

-- An order that holds the withdrawn number is 9, and so it is for the screen and for several regions.
abbrev pub dead_list_old_order : Row
dead_list_old_order = lists (ordered withdrawn_a (1 ∷ 5 ∷ 0 ∷ 2 ∷ 3 ∷ 4 ∷ [])) two_faces (8 ∷ 8 ∷ 8 ∷ 8 ∷ 8 ∷ []) (refusal 9) (8 ∷ 8 ∷ 8 ∷ 8 ∷ 8 ∷ [])

abbrev pub dead_screen_old_order : Row
dead_screen_old_order = screens (ordered withdrawn_a (1 ∷ 5 ∷ 0 ∷ 2 ∷ 3 ∷ 4 ∷ [])) two_faces (unscreened 9)

abbrev pub dead_regions_old_order : Row
dead_regions_old_order = refuses_regions (ordered withdrawn_a (1 ∷ 5 ∷ 0 ∷ 2 ∷ 3 ∷ 4 ∷ [])) (closed_regions 1 (0 ∷ []) [] []) (replicate 5 9) (replicate 3 8) 9

-- The root box is that of the live points, y to 6 where the withdrawn one had 8.
abbrev pub dead_box : Row
dead_box = boxed withdrawn_a 2 ((pos 1 ∷ pos 7 ∷ []) ∷ (pos 1 ∷ pos 6 ∷ []) ∷ [])

-- The screen finds number 4 in the last slot.
abbrev pub dead_screen : Row
dead_screen = screens withdrawn_a two_faces (finds 4 5)

-- Number 4 is inside by its own test, in slot 4.
abbrev pub dead_explain_inside : Row
dead_explain_inside = explains withdrawn_a two_faces 4 (inside_because 2 4)

-- Number 3 is outside by its own test, one below face 1.
abbrev pub dead_explain_outside : Row
dead_explain_outside = explains withdrawn_a two_faces 3 (outside_because 4 3 1 (minus 1))

-- Nothing is told of the withdrawn number.
abbrev pub explain_refuses_dead : Row
explain_refuses_dead = explains withdrawn_a two_faces 2 (unexplained 17)

-- A wrong order is 9 even for it.
abbrev pub explain_refuses_order_before_dead : Row
explain_refuses_order_before_dead = explains (ordered withdrawn_a (1 ∷ 5 ∷ 0 ∷ 2 ∷ 3 ∷ 4 ∷ [])) two_faces 2 (unexplained 9)

-- No faces, then the two.
abbrev none_then_two : Regions
none_then_two = closed_regions 2 (0 ∷ 2 ∷ []) (pos 1 ∷ pos 1 ∷ minus 1 ∷ pos 0 ∷ []) (pos 7 ∷ minus 6 ∷ [])

-- Region r's list starts at place r times v.
abbrev pub dead_regions : Row
dead_regions = lists_regions withdrawn_a none_then_two (replicate 11 9) (replicate 7 8) 0 (5 ∷ 0 ∷ 1 ∷ 3 ∷ 4 ∷ 4 ∷ 3 ∷ 1 ∷ 0 ∷ 5 ∷ 9 ∷ []) (5 ∷ 0 ∷ 0 ∷ 1 ∷ 4 ∷ 5 ∷ 8 ∷ [])

-- 4 where there are not v places a region.
abbrev pub dead_regions_short_lists : Row
dead_regions_short_lists = refuses_regions withdrawn_a none_then_two (replicate 9 9) (replicate 6 8) 4

-- Points 0 and 10 with number 1 withdrawn, in the order of before.
abbrev pair_with_one : Shelf
pair_with_one = shelf_with 1 2 (pos 0 ∷ pos 10 ∷ []) (1 ∷ 0 ∷ []) (0 ∷ 1 ∷ [])

-- The withdrawn number stands at place v, which is not read: the order of before is the tree already.
abbrev pub withdrawn_at_place_v : Row
withdrawn_at_place_v = arranges pair_with_one already pair_with_one.arranged.slots

-- And it is listed.
abbrev pub withdrawn_at_place_v_list : Row
withdrawn_at_place_v_list = lists pair_with_one from_five (7 ∷ []) (counts 0 1 0) (0 ∷ [])

-- With number 0 withdrawn it stands in the first place, and is written over.
abbrev pub withdrawn_in_the_first_place : Row
withdrawn_in_the_first_place = arranges (shelf_with 1 2 (pos 0 ∷ pos 10 ∷ []) (0 ∷ 1 ∷ []) (0 ∷ 1 ∷ [])) anew (1 ∷ 1 ∷ [])

-- 4 asks for v places: one is enough for one live number.
abbrev pub dead_arrange_room : Row
dead_arrange_room = arranges (shelf_with 1 2 (pos 0 ∷ pos 10 ∷ []) (0 ∷ 1 ∷ []) (7 ∷ [])) anew (1 ∷ [])

-- None is too few.
abbrev pub dead_arrange_short_order : Row
dead_arrange_short_order = arranges (shelf_with 1 2 (pos 0 ∷ pos 10 ∷ []) (0 ∷ 1 ∷ []) []) (unarranged 4) []

-- 4 for a list of no place.
abbrev pub dead_list_short_list : Row
dead_list_short_list = lists pair_with_one from_five [] (refusal 4) []

-- Two numbers, none live, with coordinates out of range.
abbrev all_dead : Shelf
all_dead = shelf_with 1 2 (pos 40000 ∷ minus 40000 ∷ []) (0 ∷ 0 ∷ []) []

-- A shelf on which all are dead has no slot.
abbrev pub all_dead_arrange : Row
all_dead_arrange = arranges all_dead already []

-- Its lists are empty.
abbrev pub all_dead_list : Row
all_dead_list = lists all_dead from_five (7 ∷ []) (counts 0 0 0) (7 ∷ [])

-- 5 for a live number's coordinate, beside a dead one's.
abbrev pub live_coordinate_refused : Row
live_coordinate_refused = arranges (shelf_with 1 2 (pos 40000 ∷ minus 40000 ∷ []) (0 ∷ 1 ∷ []) (1 ∷ [])) (unarranged 5) (shelf_with 1 2 (pos 40000 ∷ minus 40000 ∷ []) (0 ∷ 1 ∷ []) (1 ∷ [])).arranged.slots

-- Points 0 and 10, numbers 0 and 3, and two dead numbers between them.
abbrev pair_around_two_dead : Shelf
pair_around_two_dead = shelf_with 1 4 (pos 0 ∷ pos 99999 ∷ minus 99999 ∷ pos 10 ∷ []) (1 ∷ 0 ∷ 0 ∷ 1 ∷ []) (0 ∷ 3 ∷ [])

-- The visits are S(v, k): 2, where S(n, k) would be 3.
abbrev pub dead_bound : Row
dead_bound = attains pair_around_two_dead from_five

-- Live bytes one too few, with points one too few and no room.
abbrev few_bytes_and_points : Shelf
few_bytes_and_points = shelf_with 1 2 (pos 0 ∷ []) (1 ∷ []) []

-- 3 before 15.
abbrev pub arrange_refuses_points_before_bytes : Row
arrange_refuses_points_before_bytes = arranges few_bytes_and_points (unarranged 3) []

-- Live bytes one too few, a coordinate out of range, and no room.
abbrev few_bytes : Shelf
few_bytes = shelf_with 1 2 (pos 0 ∷ pos 40000 ∷ []) (1 ∷ []) []

-- 15 before 4 and 5, in each call.
abbrev pub arrange_refuses_few_bytes : Row
arrange_refuses_few_bytes = arranges few_bytes (unarranged 15) []

-- The list.
abbrev pub list_refuses_few_bytes : Row
list_refuses_few_bytes = lists few_bytes too_many_faces [] (refusal 15) []

-- The screen.
abbrev pub screen_refuses_few_bytes : Row
screen_refuses_few_bytes = screens few_bytes too_many_faces (unscreened 15)

-- The reason.
abbrev pub explain_refuses_few_bytes : Row
explain_refuses_few_bytes = explains few_bytes too_many_faces 9 (unexplained 15)

-- And the regions, before 14.
abbrev pub regions_refuse_few_bytes : Row
regions_refuse_few_bytes = refuses_regions few_bytes (closed_regions 0 [] [] []) [] [] 15

-- 15 for a byte too many.
abbrev pub arrange_refuses_many_bytes : Row
arrange_refuses_many_bytes = arranges (shelf_with 1 2 (pos 0 ∷ pos 10 ∷ []) (1 ∷ 1 ∷ 1 ∷ []) (7 ∷ 7 ∷ [])) (unarranged 15) (7 ∷ 7 ∷ [])

-- 15 for a byte of 2.
abbrev pub arrange_refuses_byte_two : Row
arrange_refuses_byte_two = arranges (shelf_with 1 2 (pos 0 ∷ pos 10 ∷ []) (1 ∷ 2 ∷ []) (7 ∷ 7 ∷ [])) (unarranged 15) (7 ∷ 7 ∷ [])

-- The point is written at number 1, the lowest dead of three, and its byte is set. Number 2 stays dead, with its coordinates.
abbrev pub take_writes : Row
take_writes =
    takes 2 3 (pos 1 ∷ pos 2 ∷ pos 3 ∷ pos 4 ∷ pos 5 ∷ pos 6 ∷ []) (1 ∷ 0 ∷ 0 ∷ []) (pos 8 ∷ pos 9 ∷ [])
    (takes_number 1) (pos 1 ∷ pos 2 ∷ pos 8 ∷ pos 9 ∷ pos 5 ∷ pos 6 ∷ []) (1 ∷ 1 ∷ 0 ∷ [])

-- Number 2 of three is the only dead one; the least and the greatest coordinate pass.
abbrev pub take_last : Row
take_last =
    takes 2 3 (pos 1 ∷ pos 2 ∷ pos 3 ∷ pos 4 ∷ pos 5 ∷ pos 6 ∷ []) (1 ∷ 1 ∷ 0 ∷ []) (minus 32768 ∷ pos 32767 ∷ [])
    (takes_number 2) (pos 1 ∷ pos 2 ∷ pos 3 ∷ pos 4 ∷ minus 32768 ∷ pos 32767 ∷ []) (1 ∷ 1 ∷ 1 ∷ [])

-- A dead number's coordinate may be any; the other dead number's stays.
abbrev pub take_passes_over_the_dead : Row
take_passes_over_the_dead =
    takes 1 3 (pos 40000 ∷ pos 7 ∷ minus 40000 ∷ []) (0 ∷ 1 ∷ 0 ∷ []) (pos 3 ∷ []) (takes_number 0) (pos 3 ∷ pos 7 ∷ minus 40000 ∷ []) (1 ∷ 1 ∷ 0 ∷ [])

-- Four dimensions pass, five are 1 before 2, and so is none.
abbrev pub take_four_dimensions : Row
take_four_dimensions =
    takes 4 1 (pos 1 ∷ pos 2 ∷ pos 3 ∷ pos 4 ∷ []) (0 ∷ []) (pos 5 ∷ pos 6 ∷ pos 7 ∷ pos 8 ∷ []) (takes_number 0) (pos 5 ∷ pos 6 ∷ pos 7 ∷ pos 8 ∷ []) (1 ∷ [])

abbrev pub take_refuses_five_dimensions : Row
take_refuses_five_dimensions = refuses_take 5 65536 [] [] [] 1

abbrev pub take_refuses_no_dimension : Row
take_refuses_no_dimension = refuses_take 0 1 [] (0 ∷ []) [] 1

-- 2 before 3.
abbrev pub take_refuses_n : Row
take_refuses_n = refuses_take 1 65536 [] [] (pos 3 ∷ []) 2

-- 3 before 15: for points that are too few, for a point that is too short, and for one that is too long.
abbrev pub take_refuses_points : Row
take_refuses_points = refuses_take 1 2 (pos 0 ∷ []) (2 ∷ 0 ∷ []) (pos 3 ∷ []) 3

abbrev pub take_refuses_short_point : Row
take_refuses_short_point = refuses_take 1 2 (pos 0 ∷ pos 10 ∷ []) (2 ∷ 0 ∷ []) [] 3

abbrev pub take_refuses_long_point : Row
take_refuses_long_point = refuses_take 1 2 (pos 0 ∷ pos 10 ∷ []) (1 ∷ []) (pos 3 ∷ pos 4 ∷ []) 3

-- 15 before 5: for bytes that are too few or too many, and for a byte of 2; the live number's coordinate or the point's is out of range.
abbrev pub take_refuses_few_bytes : Row
take_refuses_few_bytes = refuses_take 1 2 (pos 32768 ∷ pos 10 ∷ []) (1 ∷ []) (pos 3 ∷ []) 15

abbrev pub take_refuses_many_bytes : Row
take_refuses_many_bytes = refuses_take 1 2 (pos 0 ∷ pos 10 ∷ []) (1 ∷ 0 ∷ 0 ∷ []) (pos 32768 ∷ []) 15

abbrev pub take_refuses_byte_before_coordinate : Row
take_refuses_byte_before_coordinate = refuses_take 1 2 (pos 32768 ∷ pos 10 ∷ []) (1 ∷ 2 ∷ []) (pos 3 ∷ []) 15

abbrev pub take_refuses_byte_before_point : Row
take_refuses_byte_before_point = refuses_take 1 2 (pos 0 ∷ pos 10 ∷ []) (0 ∷ 2 ∷ []) (pos 32768 ∷ []) 15

-- 5 before 16: for a live number's coordinate, and for the point's.
abbrev pub take_refuses_coordinate : Row
take_refuses_coordinate = refuses_take 1 2 (pos 0 ∷ minus 32769 ∷ []) (1 ∷ 1 ∷ []) (pos 3 ∷ []) 5

abbrev pub take_refuses_point : Row
take_refuses_point = refuses_take 1 2 (pos 0 ∷ pos 10 ∷ []) (1 ∷ 1 ∷ []) (pos 32768 ∷ []) 5

-- 16 where none is dead, and where there is no number.
abbrev pub take_refuses_full : Row
take_refuses_full = refuses_take 1 2 (pos 0 ∷ pos 10 ∷ []) (1 ∷ 1 ∷ []) (pos 3 ∷ []) 16

abbrev pub take_refuses_no_number : Row
take_refuses_no_number = refuses_take 1 0 [] [] (pos 3 ∷ []) 16

-- Number 1's byte is cleared.
abbrev pub withdraw_clears : Row
withdraw_clears = withdraws 3 1 (1 ∷ 1 ∷ 0 ∷ []) 0 (1 ∷ 0 ∷ 0 ∷ [])

abbrev pub withdraw_last : Row
withdraw_last = withdraws 1 0 (1 ∷ []) 0 (0 ∷ [])

-- 2 before 15.
abbrev pub withdraw_refuses_n : Row
withdraw_refuses_n = refuses_withdrawal 65536 0 [] 2

-- 15 before 17: for bytes that are too few or too many, and for a byte of 2, were it another number's.
abbrev pub withdraw_refuses_few_bytes : Row
withdraw_refuses_few_bytes = refuses_withdrawal 2 1 (1 ∷ []) 15

abbrev pub withdraw_refuses_many_bytes : Row
withdraw_refuses_many_bytes = refuses_withdrawal 2 2 (1 ∷ 1 ∷ 1 ∷ []) 15

abbrev pub withdraw_refuses_byte : Row
withdraw_refuses_byte = refuses_withdrawal 2 0 (0 ∷ 2 ∷ []) 15

-- 17 for a dead number, for one that is not below n, and where there is none.
abbrev pub withdraw_refuses_dead : Row
withdraw_refuses_dead = refuses_withdrawal 2 1 (1 ∷ 0 ∷ []) 17

abbrev pub withdraw_refuses_number : Row
withdraw_refuses_number = refuses_withdrawal 2 2 (1 ∷ 1 ∷ []) 17

abbrev pub withdraw_refuses_number_of_none : Row
withdraw_refuses_number_of_none = refuses_withdrawal 0 0 [] 17

-- Freed room is used first.
abbrev pub change_freed_first : Row
change_freed_first = changes 3 (1 ∷ 1 ∷ 0 ∷ []) (withdrawn 0 ∷ refused ∷ taken ∷ []) true (1 ∷ 1 ∷ 0 ∷ [])

-- A take lacks room where all are live, and a dead number is not withdrawn again.
abbrev pub change_no_room : Row
change_no_room = changes 2 (1 ∷ 0 ∷ []) (taken ∷ taken ∷ []) false (1 ∷ 1 ∷ [])

abbrev pub change_withdrawn_twice : Row
change_withdrawn_twice = changes 2 (1 ∷ 1 ∷ []) (withdrawn 1 ∷ withdrawn 1 ∷ []) false (1 ∷ 0 ∷ [])

-- ---- tight boxes

-- The summary of A, slot after slot: x 4..4, y 2..2 for number 1 alone; x 1..4, y 2..5 for the left branch; and so on.
abbrev summary_of_a : List ℤ
summary_of_a =
    pos 4 ∷ pos 2 ∷ pos 4 ∷ pos 2
    ∷ pos 1 ∷ pos 2 ∷ pos 4 ∷ pos 5
    ∷ pos 1 ∷ pos 5 ∷ pos 1 ∷ pos 5
    ∷ pos 1 ∷ pos 1 ∷ pos 7 ∷ pos 8
    ∷ pos 7 ∷ pos 1 ∷ pos 7 ∷ pos 1
    ∷ pos 6 ∷ pos 1 ∷ pos 7 ∷ pos 6
    ∷ []

abbrev pub tight_summary : Row
tight_summary = summarised shelf_a summary_of_a

-- It is the true one; with its last number one more it is not, nor with one number too few.
abbrev pub tight_true : Row
tight_true = summaries shelf_a summary_of_a true

abbrev pub tight_last_number_wrong : Row
tight_last_number_wrong = summaries one (pos 4 ∷ pos 2 ∷ pos 4 ∷ pos 3 ∷ []) false

abbrev pub tight_one_short : Row
tight_one_short = summaries one (pos 4 ∷ pos 2 ∷ pos 4 ∷ []) false

-- The two faces leave three slots open by their tight boxes, where five are open by their branch boxes: the slots alone in their branch are settled.
abbrev pub tight_two_faces : Row
tight_two_faces = tight_opens shelf_a two_faces (false ∷ true ∷ false ∷ true ∷ false ∷ true ∷ [])

abbrev pub tight_two_faces_visits : Row
tight_two_faces_visits = visited shelf_a two_faces 3 5

-- Right of five the right branch, x 6..7, is wholly above; its branch box, x 4..7, is open.
abbrev pub tight_right_of_five : Row
tight_right_of_five = tight_opens shelf_a right_of_five (false ∷ false ∷ false ∷ true ∷ false ∷ false ∷ [])

abbrev pub tight_right_of_five_visits : Row
tight_right_of_five_visits = visited shelf_a right_of_five 1 3

-- Two points of one dimension: the root is open either way, the slot alone in its branch by its branch box only.
abbrev pub tight_pair_visits : Row
tight_pair_visits = visited pair from_five 1 2

-- With number 2 withdrawn: of the live points only.
abbrev pub tight_dead_summary : Row
tight_dead_summary =
    summarised withdrawn_a
    (pos 2 ∷ pos 2 ∷ pos 2 ∷ pos 2
    ∷ pos 1 ∷ pos 2 ∷ pos 2 ∷ pos 5
    ∷ pos 1 ∷ pos 1 ∷ pos 7 ∷ pos 6
    ∷ pos 7 ∷ pos 1 ∷ pos 7 ∷ pos 1
    ∷ pos 6 ∷ pos 1 ∷ pos 7 ∷ pos 6
    ∷ [])

abbrev pub tight_dead_visits : Row
tight_dead_visits = visited withdrawn_a two_faces 3 5

-- One point has no visit, and the empty shelf no summary.
abbrev pub tight_one_visits : Row
tight_one_visits = visited one two_faces 0 0

abbrev pub tight_empty_summary : Row
tight_empty_summary = summarised (shelf 2 0 [] []) []

-- ---- the statement

-- The table.
abbrev pub table : List Row
table =
    example_1_arrange
    ∷ example_1_already
    ∷ example_2_list
    ∷ example_2_open
    ∷ example_2_box
    ∷ example_3_list
    ∷ example_4_all
    ∷ example_4_none
    ∷ example_5_list
    ∷ example_5_reach_0
    ∷ example_5_reach_1
    ∷ example_6_list
    ∷ example_7_arrange
    ∷ example_7_list
    ∷ example_7_bound
    ∷ example_8_arrange
    ∷ example_8_already
    ∷ example_8_swapped
    ∷ example_9_list
    ∷ example_9_test
    ∷ sum_6_2
    ∷ sum_65535_1
    ∷ sum_65535_2
    ∷ sum_65535_3
    ∷ sum_65535_4
    ∷ test_on_the_face
    ∷ test_below_the_face
    ∷ arrange_keeps_later_places
    ∷ list_keeps_later_places
    ∷ arrange_by_value_not_size
    ∷ arrange_ties_in_three
    ∷ arrange_equal_points
    ∷ list_ties_in_three
    ∷ open_ties_in_three
    ∷ arrange_three
    ∷ list_three
    ∷ open_three
    ∷ arrange_four
    ∷ list_four
    ∷ open_four
    ∷ arrange_swapped
    ∷ arrange_extremes
    ∷ list_extremes
    ∷ list_beyond_reach
    ∷ list_zero_face
    ∷ list_zero_face_above_none
    ∷ list_empty
    ∷ arrange_refuses_k_first
    ∷ arrange_refuses_no_dimension
    ∷ arrange_refuses_n_second
    ∷ arrange_refuses_points_third
    ∷ arrange_refuses_room_fourth
    ∷ arrange_refuses_coordinate_fifth
    ∷ arrange_refuses_low_coordinate
    ∷ list_refuses_short_list
    ∷ list_refuses_coordinate
    ∷ list_refuses_h
    ∷ list_refuses_normals
    ∷ list_refuses_offsets
    ∷ list_refuses_component
    ∷ list_refuses_high_component
    ∷ list_refuses_offset
    ∷ list_refuses_low_offset
    ∷ list_refuses_order
    ∷ arrange_number_twice
    ∷ arrange_number_of_n
    ∷ test_refuses_dimension
    ∷ test_refuses_length
    ∷ test_refuses_coordinate
    ∷ test_refuses_h
    ∷ test_refuses_normals
    ∷ test_refuses_component
    ∷ sum_0_3
    ∷ square_faces
    ∷ arrange_takes_full_shelf
    ∷ list_takes_most_faces
    ∷ list_refuses_dimension
    ∷ list_refuses_n
    ∷ list_refuses_points
    ∷ list_refuses_short_order
    ∷ screen_two_faces
    ∷ screen_node_to_the_right
    ∷ screen_all
    ∷ screen_none
    ∷ screen_no_faces
    ∷ screen_last_slot
    ∷ screen_between
    ∷ screen_empty
    ∷ screen_refuses_dimension
    ∷ screen_refuses_n
    ∷ screen_refuses_points
    ∷ screen_refuses_short_order
    ∷ screen_refuses_coordinate
    ∷ screen_refuses_h
    ∷ screen_refuses_normals
    ∷ screen_refuses_component
    ∷ screen_refuses_order
    ∷ list_one_open_face
    ∷ list_open_diagonal
    ∷ open_diagonal_settles_slot_0
    ∷ list_mirrored_diagonal
    ∷ list_open_root_corner
    ∷ open_root_corner
    ∷ screen_open_root_corner
    ∷ screen_on_closed_face
    ∷ screen_on_open_face
    ∷ test_on_closed_face
    ∷ test_on_open_face
    ∷ test_past_open_face
    ∷ list_open_zero_face
    ∷ list_refuses_missing_mark
    ∷ list_refuses_extra_mark
    ∷ list_refuses_mark
    ∷ list_refuses_offset_before_mark
    ∷ screen_refuses_mark
    ∷ screen_refuses_offset_before_mark
    ∷ test_refuses_mark
    ∷ test_refuses_offset_before_mark
    ∷ test_no_faces
    ∷ margin_tie
    ∷ margin_second_face
    ∷ margin_past_a_face_below
    ∷ margin_zero_closed_and_open
    ∷ margin_least_of_all
    ∷ margin_greatest_of_all
    ∷ colour_makes_a_point
    ∷ grey_makes_a_point
    ∷ colour_between_two_numbers
    ∷ grey_minus_zero
    ∷ grey_last_below_zero
    ∷ grey_last_below_128
    ∷ grey_minus_128
    ∷ colour_of_extremes
    ∷ grey_refuses_128
    ∷ grey_refuses_below_minus_128
    ∷ grey_refuses_infinite
    ∷ grey_refuses_minus_infinite
    ∷ grey_refuses_no_number
    ∷ colour_refuses_first
    ∷ colour_refuses_second
    ∷ colour_refuses_last
    ∷ nothing_makes_none
    ∷ colour_refuses_length
    ∷ grey_refuses_length
    ∷ nothing_refuses_length
    ∷ explain_whole_branch_below
    ∷ explain_own_test_below
    ∷ explain_own_test_inside
    ∷ explain_own_test_second_face
    ∷ explain_names_the_node
    ∷ explain_own_margin
    ∷ explain_open_branch_inside
    ∷ explain_whole_shelf_inside
    ∷ explain_whole_shelf_outside
    ∷ explain_branch_inside
    ∷ explain_whole_shelf_on_an_open_face
    ∷ explain_no_faces
    ∷ explain_face_of_the_box
    ∷ explain_lowest_face_of_the_box
    ∷ explain_lowest_face_of_the_point
    ∷ explain_on_an_open_face
    ∷ explain_on_a_closed_face
    ∷ explain_longer_order
    ∷ explain_refuses_dimension
    ∷ explain_refuses_n
    ∷ explain_refuses_points
    ∷ explain_refuses_short_order
    ∷ explain_refuses_coordinate
    ∷ explain_refuses_h
    ∷ explain_refuses_normals
    ∷ explain_refuses_component
    ∷ explain_refuses_offset_before_mark
    ∷ explain_refuses_mark
    ∷ explain_refuses_order
    ∷ explain_refuses_number
    ∷ explain_refuses_number_of_none
    ∷ reason_nearest_the_root
    ∷ reason_inside_with_branch
    ∷ reason_inside_by_itself
    ∷ reason_outside_by_itself
    ∷ reason_lowest_face
    ∷ regions_three
    ∷ regions_one
    ∷ regions_with_marks
    ∷ regions_most
    ∷ regions_most_faces
    ∷ regions_refuse_65
    ∷ regions_refuse_none
    ∷ regions_refuse_count_before_room
    ∷ regions_refuse_extra_count
    ∷ regions_refuse_dimension
    ∷ regions_refuse_n
    ∷ regions_refuse_points_before_count
    ∷ regions_refuse_short_order
    ∷ regions_refuse_short_lists
    ∷ regions_refuse_short_counts
    ∷ regions_refuse_coordinate
    ∷ regions_refuse_h
    ∷ regions_refuse_h_unsummed
    ∷ regions_refuse_normals
    ∷ regions_refuse_offsets
    ∷ regions_refuse_component
    ∷ regions_refuse_mark
    ∷ regions_refuse_missing_mark
    ∷ regions_refuse_order
    ∷ live_some
    ∷ live_all
    ∷ live_none
    ∷ live_other_byte
    ∷ live_below_n
    ∷ range_of_the_dead
    ∷ range_of_the_live
    ∷ dead_arrange
    ∷ dead_already
    ∷ dead_old_order
    ∷ dead_swapped
    ∷ dead_number_of_n
    ∷ taken_old_order
    ∷ dead_list
    ∷ dead_list_old_order
    ∷ dead_screen_old_order
    ∷ dead_regions_old_order
    ∷ dead_box
    ∷ dead_screen
    ∷ dead_explain_inside
    ∷ dead_explain_outside
    ∷ explain_refuses_dead
    ∷ explain_refuses_order_before_dead
    ∷ dead_regions
    ∷ dead_regions_short_lists
    ∷ withdrawn_at_place_v
    ∷ withdrawn_at_place_v_list
    ∷ withdrawn_in_the_first_place
    ∷ dead_arrange_room
    ∷ dead_arrange_short_order
    ∷ dead_list_short_list
    ∷ all_dead_arrange
    ∷ all_dead_list
    ∷ live_coordinate_refused
    ∷ dead_bound
    ∷ arrange_refuses_points_before_bytes
    ∷ arrange_refuses_few_bytes
    ∷ list_refuses_few_bytes
    ∷ screen_refuses_few_bytes
    ∷ explain_refuses_few_bytes
    ∷ regions_refuse_few_bytes
    ∷ arrange_refuses_many_bytes
    ∷ arrange_refuses_byte_two
    ∷ take_writes
    ∷ take_last
    ∷ take_passes_over_the_dead
    ∷ take_four_dimensions
    ∷ take_refuses_five_dimensions
    ∷ take_refuses_no_dimension
    ∷ take_refuses_n
    ∷ take_refuses_points
    ∷ take_refuses_short_point
    ∷ take_refuses_long_point
    ∷ take_refuses_few_bytes
    ∷ take_refuses_many_bytes
    ∷ take_refuses_byte_before_coordinate
    ∷ take_refuses_byte_before_point
    ∷ take_refuses_coordinate
    ∷ take_refuses_point
    ∷ take_refuses_full
    ∷ take_refuses_no_number
    ∷ withdraw_clears
    ∷ withdraw_last
    ∷ withdraw_refuses_n
    ∷ withdraw_refuses_few_bytes
    ∷ withdraw_refuses_many_bytes
    ∷ withdraw_refuses_byte
    ∷ withdraw_refuses_dead
    ∷ withdraw_refuses_number
    ∷ withdraw_refuses_number_of_none
    ∷ change_freed_first
    ∷ change_no_room
    ∷ change_withdrawn_twice
    ∷ tight_summary
    ∷ tight_true
    ∷ tight_last_number_wrong
    ∷ tight_one_short
    ∷ tight_two_faces
    ∷ tight_two_faces_visits
    ∷ tight_right_of_five
    ∷ tight_right_of_five_visits
    ∷ tight_pair_visits
    ∷ tight_dead_summary
    ∷ tight_dead_visits
    ∷ tight_one_visits
    ∷ tight_empty_summary
    ∷ []
