-- The arrange call: what it gives for any arguments, and the order afterwards.
use Rattle.std.specs.Prelude.{◌≡◌, ◌≢◌, true, List, ◌++◌, ℕ, length, drop}
use Rattle.terms.specs.declared.Arranging.{Arranging}
use Rattle.terms.specs.Tests.{bit}
use Rattle.terms.specs.Lent.{Stock, Order}
use Rattle.terms.specs.Points.{slots_of}
use Rattle.terms.specs.Tree.{is_shelf}
use Rattle.terms.specs.Refusals.{Refusal, first_of, shape_refusals, live_refusals, room_refusals, live_coordinate_refusals, if_done}

-- Arrange: 1, 2, 3, 15, 4, 5.
abbrev pub arrange_refusals : Stock → Order → List Refusal
arrange_refusals s o =
    shape_refusals s.k s.n s.points
    ++ live_refusals s.n s.live
    ++ room_refusals (slots_of s) (length o.slots)
    ++ live_coordinate_refusals s

-- The number that the arrange call returns.
unfoldable pub arrange_code : Stock → Order → ℕ
arrange_code s o = first_of (arrange_refusals s o)

-- The arrange call's answer: 1 where the first v places were the tree already, else 0; of a refusal its number and 0.
unfoldable pub arrange_answer : Stock → Order → Arranging
arrange_answer s o = if_done
    (arrange_code s o)
    (record { code = 0; already = bit (is_shelf s o) })
    (record { code = arrange_code s o; already = 0 })

-- What the arrange call does: done, the first v places are the tree and the later ones are as they were; refused, all are as they were.
pub record ArrangedAs (s : Stock) (o : Order) (answer : Arranging) (after : Order) : Type 0 where
  pub answered : answer ≡ arrange_answer s o
  pub size : length after.slots ≡ length o.slots
  pub arranged : answer.code ≡ 0 → is_shelf s after ≡ true
  pub later : answer.code ≡ 0 → drop (slots_of s) after.slots ≡ drop (slots_of s) o.slots
  pub refused : answer.code ≢ 0 → after.slots ≡ o.slots
