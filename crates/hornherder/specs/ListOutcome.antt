-- What the list call gives, put together: where its first refusal is not 0, the refusal; where it is 0, what the walk counts and writes.
use Rattle.std.specs.Prelude.{◌≡◌, refl, ◌≢◌, List, ◌++◌, ℕ, ◌-◌, length, drop}
use Rattle.std.proofs.Common.{sym, ◌∙◌}
use Rattle.terms.specs.Lent.{Stock, Order, Faces}
use Rattle.terms.specs.Points.{point_of, slots_of}
use Rattle.terms.specs.Tree.{shelf_run}
use Rattle.terms.specs.Region.{region}
use Rattle.terms.specs.ListCall.{list_refusals, list_code, list_answer, list_after, ListedAs}
use Rattle.theory.specs.FirstRefusal.{if_refused}
use Rattle.theory.specs.ListCall.{ListPassed, list_passed}
use Rattle.walk.specs.Shelf.{ShelfWalked}
use Rattle.hornherder.specs.First.{First}

module _ (s : Stock) (o : Order) (f : Faces) (list : List ℕ) {c : ℕ} (first : First (list_refusals s o f list) c) where
  list_coded : c ≡ list_code s o f list
  unfolding list_code
  list_coded = first.is

  -- What 1, 2, 3, 15, 4 to 8, 11 and 9 have tested.
  pub list_tested : c ≡ 0 → ListPassed s o f list
  list_tested z = list_passed s o f list (sym list_coded ∙ z)

  pub list_refused : c ≢ 0 → ListedAs s o f list (record { code = c; inside = 0; outside = 0; visits = 0 }) list
  unfolding list_answer list_after
  list_refused m = record { answered = rw (← list_coded) (sym (if_refused c _ _ m)); written = rw (← list_coded) (sym (if_refused c _ _ m)) }

  pub list_done : c ≡ 0 → length (shelf_run s o) ≡ slots_of s → (after : List ℕ) (i u : ℕ) → ShelfWalked (region s.k f) (point_of s) (shelf_run s o) after i u
      → ListedAs s o f list (record { code = 0; inside = i; outside = slots_of s - i; visits = u }) (after ++ drop (slots_of s) list)
  unfolding list_answer list_after
  list_done z slots after i u w = record {
    answered = rw (← list_coded, z, rw slots at w.listed.outside, w.listed.inside, w.visited) refl;
    written = rw (← list_coded, z, w.listed.list) refl;
  }
