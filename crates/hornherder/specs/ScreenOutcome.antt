-- What the screen call gives, put together: where its first refusal is not 0, the refusal; where it is 0, what the screen found.
use Rattle.std.specs.Prelude.{◌≡◌, ◌≢◌, Bool, true, false, Option, Some, None, is_some, unwrap_or, List, ℕ, ◌≤◌, length, ℤ}
use Rattle.std.proofs.Math.Path.{refl}
use Rattle.std.proofs.Common.{sym, ◌∙◌, arith}
use Rattle.terms.specs.Lent.{Stock, Order, Faces}
use Rattle.terms.specs.Points.{point_of}
use Rattle.terms.specs.Tree.{shelf_run}
use Rattle.terms.specs.Region.{Region, region}
use Rattle.terms.specs.AnswersForC.{found_of}
use Rattle.terms.specs.ScreenCall.{screen_refusals, screen_code, screen_answer}
use Rattle.theory.specs.BoxFuel.{visits_le_slots}
use Rattle.theory.specs.FirstRefusal.{if_refused}
use Rattle.theory.specs.ScreenCall.{ScreenPassed, screen_passed, screen_visits_le}
use Rattle.screen_walk.specs.Shelf.{ShelfScreened}
use Rattle.hornherder.specs.First.{First}

-- The visits are at most the slots.
pub screen_visits_most : {g : Region} {at : ℕ → ℕ → ℤ} {run : List ℕ} {found : Bool} {number u : ℕ} → ShelfScreened g at run found number u → u ≤ length run
screen_visits_most {g} {at} {run} w = omega (arith, w.visited, screen_visits_le g at run, visits_le_slots g at run)

module _ (s : Stock) (o : Order) (f : Faces) {c : ℕ} (first : First (screen_refusals s o f) c) where
  screen_coded : c ≡ screen_code s o f
  unfolding screen_code
  screen_coded = first.is

  -- What 1, 2, 3, 15, 4 to 8, 11 and 9 have tested.
  pub screen_tested : c ≡ 0 → ScreenPassed s o f
  screen_tested z = screen_passed s o f (sym screen_coded ∙ z)

  pub screen_refused : c ≢ 0 → record { code = c; found = 0; number = 0; visits = 0 } ≡ screen_answer s o f
  unfolding screen_answer
  screen_refused m = rw (← screen_coded) (sym (if_refused c _ _ m))

  -- It found a number.
  pub screen_found : c ≡ 0 → {number u : ℕ} → ShelfScreened (region s.k f) (point_of s) (shelf_run s o) true number u
      → record { code = 0; found = 1; number = number; visits = u } ≡ screen_answer s o f
  unfolding screen_answer
  screen_found z w = let (rest, e) = w.one refl in rw (← screen_coded, z, e, w.visited) refl

  -- It found none.
  pub screen_none : c ≡ 0 → {number u : ℕ} → ShelfScreened (region s.k f) (point_of s) (shelf_run s o) false number u
      → record { code = 0; found = 0; number = 0; visits = u } ≡ screen_answer s o f
  unfolding screen_answer
  screen_none z w = rw (← screen_coded, z, w.none refl, w.visited) refl

  -- Either way.
  pub screen_done : c ≡ 0 → (number : Option ℕ) {u : ℕ} → ShelfScreened (region s.k f) (point_of s) (shelf_run s o) (is_some number) (unwrap_or number 0) u
      → found_of number u ≡ screen_answer s o f
  screen_done z (Some p) w = screen_found z w
  screen_done z None w = screen_none z w
