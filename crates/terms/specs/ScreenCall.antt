-- The screen call: what it gives for any arguments.
use Rattle.std.specs.Prelude.{List, ◌++◌, ℕ}
use Rattle.terms.specs.declared.Screening.{Screening}
use Rattle.terms.specs.Lent.{Stock, Order, Faces}
use Rattle.terms.specs.Points.{point_of}
use Rattle.terms.specs.Tree.{shelf_run}
use Rattle.terms.specs.Region.{region}
use Rattle.terms.specs.Lists.{insides}
use Rattle.terms.specs.Screen.{has_first, first, screen_visits}
use Rattle.terms.specs.Refusals.{Refusal, first_of, face_refusals, tree_refusals, if_done}
use Rattle.terms.specs.ArrangeCall.{arrange_refusals}

-- Screen: 1, 2, 3, 15, 4 to 8, 11, then 9, with 4 for the order alone.
abbrev pub screen_refusals : Stock → Order → Faces → List Refusal
screen_refusals s o f = arrange_refusals s o ++ face_refusals s.k f ++ tree_refusals s o

module _ (s : Stock) (o : Order) (f : Faces) where
  -- The number that the screen call returns.
  unfoldable pub screen_code : ℕ
  screen_code = first_of (screen_refusals s o f)

  -- The screen call's answer: whether the inside list has a first entry, that entry, and the visits; of a refusal its number and zeros.
  unfoldable pub screen_answer : Screening
  screen_answer = if_done
      screen_code
      (record {
        code = 0;
        found = has_first (insides (region s.k f) (point_of s) (shelf_run s o));
        number = first (insides (region s.k f) (point_of s) (shelf_run s o));
        visits = screen_visits (region s.k f) (point_of s) (shelf_run s o);
      })
      (record { code = screen_code; found = 0; number = 0; visits = 0 })
