-- Points that are in range are never refused by 5: of a call's tests with that number none holds, so it is not the first's.
use Rattle.std.specs.Prelude.{◌≡◌, refl, ◌≢◌, Bool, true, ◌&&◌, not, List, [], ◌∷◌, ℕ, zero, suc, ◌<◌, get_or, ℤ, eqb}
use Rattle.std.proofs.Common.{◌∙◌, arith, eq-eqb}
use Rattle.terms.specs.Tests.{every}
use Rattle.terms.specs.Lent.{Stock, Order, Faces, Regions}
use Rattle.terms.specs.Live.{is_live}
use Rattle.terms.specs.Points.{coord, point_of, is_coordinate, belongs_to}
use Rattle.terms.specs.LivePoints.{members_in_range}
use Rattle.terms.specs.Refusals.{Refusal}
use Rattle.terms.specs.ArrangeCall.{arrange_refusals}
use Rattle.terms.specs.ListCall.{list_refusals}
use Rattle.terms.specs.ListRegionsCall.{list_regions_refusals}
use Rattle.terms.specs.ScreenCall.{screen_refusals}
use Rattle.terms.specs.ExplainCall.{explain_refusals}
use Rattle.terms.specs.PlaceCall.{place_refusals}
use Rattle.terms.specs.TakeCall.{take_refusals}
use Rattle.theory.specs.Flags.{clash, and_true, true_and, not_true}
use Rattle.theory.specs.FirstRefusal.{none, FirstHeld}

-- No test with the number c holds.
unfoldable pub never_holds : ℕ → List Refusal → Bool
never_holds c [] = true
never_holds c (r ∷ rs) = not (eqb r.number c && r.holds) && never_holds c rs

never_at : (c : ℕ) (rs : List Refusal) → never_holds c rs ≡ true → (i : ℕ) → (get_or rs i none).holds ≡ true → (get_or rs i none).number ≢ c
unfolding never_holds
never_at c [] e i h = clash h refl
never_at c (r ∷ rs) e zero h = λ z.
    clash
    (true_and (eq-eqb r.number c z) h)
    (not_true (eqb r.number c && r.holds) (and_true (not (eqb r.number c && r.holds)) e).0)
never_at c (r ∷ rs) e (suc i) h = never_at c rs (and_true (not (eqb r.number c && r.holds)) e).1 i h

-- So an answer that is the first is not that number.
pub never_answered : {c : ℕ} → 0 < c → {rs : List Refusal} {answer : ℕ} → never_holds c rs ≡ true → FirstHeld rs answer → answer ≢ c
never_answered {c} l {rs} e w = λ z.
    let p = w.found (λ n. omega arith) in
    never_at c rs e p.0 p.1 (p.2 ∙ z)

-- "9 no longer comes from this call."
pub arrange_never_nine : (s : Stock) (o : Order) → never_holds 9 (arrange_refusals s o) ≡ true
unfolding never_holds
arrange_never_nine s o = refl

module _ (s : Stock) (o : Order) (fit : members_in_range s.k (point_of s) (belongs_to s) s.n ≡ true) where
  pub arrange_never_five : never_holds 5 (arrange_refusals s o) ≡ true
  unfolding never_holds
  arrange_never_five = rw fit

  pub list_never_five : (f : Faces) (list : List ℕ) → never_holds 5 (list_refusals s o f list) ≡ true
  unfolding never_holds
  list_never_five f list = rw fit

  pub list_regions_never_five : (g : Regions) (lists counts : List ℕ) → never_holds 5 (list_regions_refusals s o g lists counts) ≡ true
  unfolding never_holds
  list_regions_never_five g lists counts = rw fit

  pub screen_never_five : (f : Faces) → never_holds 5 (screen_refusals s o f) ≡ true
  unfolding never_holds
  screen_never_five f = rw fit

  pub explain_never_five : (f : Faces) (p : ℕ) → never_holds 5 (explain_refusals s o f p) ≡ true
  unfolding never_holds
  explain_never_five f p = rw fit

pub take_never_five : (k n : ℕ) (points : List ℤ) (live : List ℕ) (point : List ℤ) → members_in_range k (coord k points) (is_live n live) n ≡ true
    → every is_coordinate point ≡ true → never_holds 5 (take_refusals k n points live point) ≡ true
unfolding never_holds
take_never_five k n points live point fit own = rw (fit, own)

pub place_never_five : (k : ℕ) (point : List ℤ) (f : Faces) → every is_coordinate point ≡ true → never_holds 5 (place_refusals k point f) ≡ true
unfolding never_holds
place_never_five k point f fit = rw fit
