-- The list call: what it gives for any arguments, and the list buffer afterwards.
use Rattle.std.specs.Prelude.{◌≡◌, List, ◌++◌, ℕ, length, drop, ℤ}
use Rattle.terms.specs.declared.Listing.{Listing}
use Rattle.terms.specs.Lent.{Stock, Order, Faces}
use Rattle.terms.specs.Points.{point_of, slots_of}
use Rattle.terms.specs.Tree.{shelf_run}
use Rattle.terms.specs.Region.{Region, region}
use Rattle.terms.specs.Visits.{visits}
use Rattle.terms.specs.Lists.{insides, outsides, places}
use Rattle.terms.specs.Refusals.{Refusal, first_of, stock_refusals, room_refusals, live_coordinate_refusals, face_refusals, tree_refusals, if_done}

-- List: 1, 2, 3, 15, 4 to 8, 11, then 9.
abbrev pub list_refusals : Stock → Order → Faces → List ℕ → List Refusal
list_refusals s o f list =
    stock_refusals s
    ++ room_refusals (slots_of s) (length o.slots)
    ++ room_refusals (slots_of s) (length list)
    ++ live_coordinate_refusals s
    ++ face_refusals s.k f
    ++ tree_refusals s o

-- The answer to a run against a region: how many are inside, how many outside, and the visits.
abbrev pub listing : Region → (ℕ → ℕ → ℤ) → List ℕ → Listing
listing g at run = record { code = 0; inside = length (insides g at run); outside = length (outsides g at run); visits = visits g at run }

module _ (s : Stock) (o : Order) (f : Faces) (list : List ℕ) where
  -- The number that the list call returns.
  unfoldable pub list_code : ℕ
  list_code = first_of (list_refusals s o f list)

  -- The list call's answer: the two lengths and the visits; of a refusal its number and zeros.
  unfoldable pub list_answer : Listing
  list_answer = if_done
      list_code
      (listing (region s.k f) (point_of s) (shelf_run s o))
      (record { code = list_code; inside = 0; outside = 0; visits = 0 })

  -- The list buffer after the list call: the first v places are the two lists, the later ones are as they were; refused, all are.
  unfoldable pub list_after : List ℕ
  list_after = if_done list_code (places (region s.k f) (point_of s) (shelf_run s o) ++ drop (slots_of s) list) list

  -- What the list call does: its answer, and the list buffer afterwards.
  pub record ListedAs (answer : Listing) (after : List ℕ) : Type 0 where
    pub answered : answer ≡ list_answer
    pub written : after ≡ list_after
