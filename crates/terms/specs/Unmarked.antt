-- The calls as they would be if faces had no marks: above means at least the offset, whatever the face. Said only for the law that with all marks 0
-- every answer stays as it was before there were any.
use Rattle.std.specs.Prelude.{Bool, ◌||◌, not, List, ◌++◌, map, reverse, ℕ, length, drop, take, ltb, ℤ, pos}
use Rattle.std.specs.Int.Signed.{le_z}
use Rattle.terms.specs.declared.Listing.{Listing}
use Rattle.terms.specs.declared.Screening.{Screening}
use Rattle.terms.specs.declared.Placing.{Placing}
use Rattle.terms.specs.Tests.{bit, count, keep, all_to, any_to}
use Rattle.terms.specs.Lent.{Stock, Order, Faces}
use Rattle.terms.specs.Points.{point_of, slots_of, lone}
use Rattle.terms.specs.Box.{Box, shelf_boxes}
use Rattle.terms.specs.Region.{Region, region, reach, against, along}
use Rattle.terms.specs.Tree.{shelf_run}
use Rattle.terms.specs.Screen.{has_first, first, up_to_first}
use Rattle.terms.specs.Margin.{least_margin, least_face}
use Rattle.terms.specs.Refusals.{
  Refusal,
  first_of,
  dimension_refusals,
  length_refusals,
  room_refusals,
  coordinate_refusals,
  live_coordinate_refusals,
  face_count_refusals,
  face_length_refusals,
  face_range_refusals,
  tree_refusals,
  stock_refusals,
  if_done,
}
use Rattle.terms.specs.ArrangeCall.{arrange_refusals}

-- A sum of products v is above face i: at least its offset.
unfoldable pub unmarked_above : Region → ℕ → ℤ → Bool
unmarked_above g i v = le_z (g.offset i) v

-- The point is inside: above every face.
abbrev pub unmarked_inside : Region → (ℕ → ℤ) → Bool
unmarked_inside g x = all_to g.h (λ i. unmarked_above g i (reach g i x))

-- A branch with this box is open: not wholly below a face, and not wholly above all of them.
abbrev pub unmarked_open : Region → Box → Bool
unmarked_open g b = not (any_to g.h (λ i. not (unmarked_above g i (reach g i (along g i b))))
    || all_to g.h (λ i. unmarked_above g i (reach g i (against g i b))))

module _ (g : Region) (at : ℕ → ℕ → ℤ) (run : List ℕ) where
  -- The numbers of a run that are inside, in slot order.
  abbrev pub unmarked_insides : List ℕ
  unmarked_insides = keep (λ p. unmarked_inside g (at p)) run

  -- The numbers of a run that are outside, in slot order.
  abbrev pub unmarked_outsides : List ℕ
  unmarked_outsides = keep (λ p. not (unmarked_inside g (at p))) run

  -- For every slot, in slot order, whether its branch is open.
  abbrev pub unmarked_open_slots : List Bool
  unmarked_open_slots = map (unmarked_open g) (shelf_boxes g.k at run)

  -- How many slots there are up to and including the first that is inside; all of them where none is.
  abbrev pub unmarked_up_to_first : ℕ
  unmarked_up_to_first = up_to_first (map (λ p. unmarked_inside g (at p)) run)

-- The faces: 6, 7 and 8.
abbrev pub unmarked_face_refusals : ℕ → Faces → List Refusal
unmarked_face_refusals k f =
    face_count_refusals f.h ++ face_length_refusals k f.h f.normals f.offsets ++ face_range_refusals f.normals f.offsets

module _ (s : Stock) (o : Order) (f : Faces) where
  -- The region of the lent faces, the stock's points and the numbers in the slots.
  abbrev cut : Region
  cut = region s.k f

  abbrev at : ℕ → ℕ → ℤ
  at = point_of s

  abbrev run : List ℕ
  run = shelf_run s o

  module _ (list : List ℕ) where
    -- The number that the list call returns.
    abbrev pub unmarked_list_code : ℕ
    unmarked_list_code = first_of
        (stock_refusals s
        ++ room_refusals (slots_of s) (length o.slots)
        ++ room_refusals (slots_of s) (length list)
        ++ live_coordinate_refusals s
        ++ unmarked_face_refusals s.k f
        ++ tree_refusals s o)

    -- The list call's answer.
    abbrev pub unmarked_list_answer : Listing
    unmarked_list_answer = if_done
        unmarked_list_code
        (record {
          code = 0;
          inside = length (unmarked_insides cut at run);
          outside = length (unmarked_outsides cut at run);
          visits = count (λ t. t) (unmarked_open_slots cut at run);
        })
        (record { code = unmarked_list_code; inside = 0; outside = 0; visits = 0 })

    -- The list buffer after the list call.
    abbrev pub unmarked_list_after : List ℕ
    unmarked_list_after = if_done
        unmarked_list_code
        ((unmarked_insides cut at run ++ reverse (unmarked_outsides cut at run)) ++ drop (slots_of s) list)
        list

  -- The number that the screen call returns.
  abbrev pub unmarked_screen_code : ℕ
  unmarked_screen_code = first_of (arrange_refusals s o ++ unmarked_face_refusals s.k f ++ tree_refusals s o)

  -- The screen call's answer.
  abbrev pub unmarked_screen_answer : Screening
  unmarked_screen_answer = if_done
      unmarked_screen_code
      (record {
        code = 0;
        found = has_first (unmarked_insides cut at run);
        number = first (unmarked_insides cut at run);
        visits = count (λ t. t) (take (unmarked_up_to_first cut at run) (unmarked_open_slots cut at run));
      })
      (record { code = unmarked_screen_code; found = 0; number = 0; visits = 0 })

module _ (k : ℕ) (point : List ℤ) (f : Faces) where
  -- The number that the one-point test returns.
  abbrev pub unmarked_place_code : ℕ
  unmarked_place_code = first_of (dimension_refusals k ++ length_refusals k point ++ coordinate_refusals point ++ unmarked_face_refusals k f)

  -- The one-point test's answer.
  abbrev pub unmarked_place_answer : Placing
  unmarked_place_answer = if_done
      unmarked_place_code
      (record {
        code = 0;
        inside = bit (unmarked_inside (region k f) (lone point));
        measured = bit (ltb 0 f.h);
        face = least_face (region k f) (lone point);
        margin = least_margin (region k f) (lone point);
      })
      (record { code = unmarked_place_code; inside = 0; measured = 0; face = 0; margin = pos 0 })
