-- What a call that makes a point gives, put together: where its place is not three long, the refusal; where it is, what the reading gives.
use Rattle.std.specs.Prelude.{◌≡◌, refl, ◌≢◌, List, ℕ, length, ℤ}
use Rattle.std.proofs.Common.{sym, ap, ◌∙◌}
use Rattle.terms.specs.declared.Reading.{Reading}
use Rattle.terms.specs.declared.Making.{Making}
use Rattle.terms.specs.Reading.{Given, gives}
use Rattle.terms.specs.Refusals.{length_refusals, value_refusals}
use Rattle.terms.specs.PointCall.{numbers_of, place_of, point_code, point_answer, point_after, MadeAs}
use Rattle.theory.specs.FirstRefusal.{no_zero, if_refused}
use Rattle.theory.specs.RefusalsPassed.{length_passed}
use Rattle.theory.specs.PointCall.{point_numbers, point_place}
use Rattle.hornherder.specs.First.{First, first_stops, first_passed}

-- What 3 has tested.
pub point_sized : (place : List ℤ) {c : ℕ} → First (length_refusals 3 place) c → c ≡ 0 → length place ≡ 3
unfolding no_zero
point_sized place first z = length_passed 3 place (first_passed refl first z)

module _ (r : Reading) (place : List ℤ) {c : ℕ} (first : First (length_refusals 3 place) c) where
  coded : c ≢ 0 → c ≡ point_code r place
  unfolding point_code
  coded m = (first_stops (value_refusals r) first m).is

  pub point_refused : c ≢ 0 → MadeAs r place (record { code = c; made = 0 }) place
  unfolding point_answer point_after
  point_refused m = record { answered = rw (← coded m) (sym (if_refused c _ _ m)); written = rw (← coded m) (sym (if_refused c _ _ m)) }

  pub point_given : c ≡ 0 → {g : Given} → g ≡ gives r → {a : Making} {x : List ℤ} → a ≡ numbers_of g → x ≡ place_of g place → MadeAs r place a x
  point_given z e p q = record {
    answered = p ∙ ap numbers_of e ∙ sym (point_numbers r place (point_sized place first z));
    written = q ∙ ap (λ (g : Given). place_of g place) e ∙ sym (point_place r place (point_sized place first z));
  }
