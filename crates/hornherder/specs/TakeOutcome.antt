-- What the take call gives, put together: where its first refusal is not 0, the refusal; where it is 0, the point written at the lowest dead number.
use Rattle.std.specs.Prelude.{◌≡◌, ◌≢◌, List, ◌++◌, ℕ, ◌+◌, ◌-◌, ◌*◌, take, drop, set, ℤ}
use Rattle.std.proofs.Common.{sym, ap, ◌∙◌, arith, drop-drop}
use Rattle.terms.specs.Live.{lowest_dead}
use Rattle.terms.specs.LivePoints.{point_written}
use Rattle.terms.specs.TakeCall.{take_refusals, take_code, TakenAs}
use Rattle.theory.specs.TakeCall.{
  TakePassed,
  take_passed,
  take_refused_answer,
  take_refused_points,
  take_refused_live,
  take_done_answer,
  take_done_points,
  take_done_live,
}
use Rattle.hornherder.specs.First.{First}

-- The points where the part that holds number p's coordinates came back as the point.
part_put : (k p : ℕ) (points point place : List ℤ) → place ≡ point
    → take (p * k) points ++ (place ++ drop (p * k + k - p * k) (drop (p * k) points)) ≡ point_written k points p point
part_put k p points point place e =
    let whole : p * k + (p * k + k - p * k) ≡ p * k + k = omega arith in
    ap (λ (xs : List ℤ). take (p * k) points ++ (xs ++ drop (p * k + k - p * k) (drop (p * k) points))) e
    ∙ ap (λ (xs : List ℤ). take (p * k) points ++ (point ++ xs)) (drop-drop (p * k + k - p * k) (p * k) points ∙ ap (λ (u : ℕ). drop u points) whole)

module _ (k n : ℕ) (points : List ℤ) (live : List ℕ) (point : List ℤ) {c : ℕ} (first : First (take_refusals k n points live point) c) where
  take_coded : c ≡ take_code k n points live point
  unfolding take_code
  take_coded = first.is

  -- What 1, 2, 3, 15, 5 and 16 have tested.
  pub take_tested : c ≡ 0 → TakePassed k n points live point
  take_tested z = take_passed k n points live point (sym take_coded ∙ z)

  pub take_refused : c ≢ 0 → TakenAs k n points live point (record { code = c; number = 0 }) points live
  take_refused m =
      let r : take_code k n points live point ≢ 0 = λ z. m (take_coded ∙ z) in
      record {
        answered = sym (rw (← take_coded) at (take_refused_answer k n points live point r));
        written = sym (take_refused_points k n points live point r);
        marked = sym (take_refused_live k n points live point r);
      }

  pub take_done : c ≡ 0 → {p : ℕ} → p ≡ lowest_dead n live → {place : List ℤ} → place ≡ point
      → TakenAs k n points live point (record { code = 0; number = p })
      (take (p * k) points ++ (place ++ drop (p * k + k - p * k) (drop (p * k) points))) (set live p 1)
  take_done z {p} e {place} f =
      let d : take_code k n points live point ≡ 0 = sym take_coded ∙ z in
      record {
        answered = rw e (sym (take_done_answer k n points live point d));
        written = part_put k p points point place f ∙ rw e (sym (take_done_points k n points live point d));
        marked = rw e (sym (take_done_live k n points live point d));
      }
