-- The calls that make a point from a reading: the first refusal is their number, what they have tested where that is 0, and that what they make are coordinates.
use Rattle.std.specs.Prelude.{◌≡◌, ◌≢◌, Bool, List, length, get_or, ℤ, pos}
use Rattle.std.proofs.Math.Path.{refl, ap}
use Rattle.std.proofs.Common.{◌∙◌, arith, eq-eqb}
use Rattle.std.proofs.Math.Bool.{true, false}
use Prim.Native.Nat.{ℕ, zero, suc, ◌<◌}
use Rattle.std.specs.Float.{nan}
use Rattle.terms.specs.declared.Reading.{Reading}
use Rattle.terms.specs.declared.Reading.TheVariants.{Colour, Grey, Nothing}
use Rattle.terms.specs.declared.Making.{Making}
use Rattle.terms.specs.Tests.{every}
use Rattle.terms.specs.Points.{is_coordinate}
use Rattle.terms.specs.Value.{is_finite, in_range, coordinate_of}
use Rattle.terms.specs.Reading.{Given, nothing, values_of, value_at, all_in_range, becomes, gives}
use Rattle.terms.specs.Refusals.{first_of, length_refusals, value_refusals}
use Rattle.terms.specs.PointCall.{numbers_of, place_of, point_refusals, point_code, point_answer, point_after}
use Rattle.theory.specs.Flags.{and_true, true_and, not_false}
use Rattle.theory.specs.Counting.{every_at}
use Rattle.theory.specs.FirstRefusal.{FirstHeld, no_zero, first_held, passed_parts, if_refused, if_either}
use Rattle.theory.specs.FirstRefusalIsLowest.{Lowest, rises_from, first_lowest}
use Rattle.theory.specs.RefusalsPassed.{length_passed}
use Rattle.theory.specs.Values.{in_range_lem, coordinate_of_range}

-- What was tested: three places, and every value in range.
pub record PointPassed (r : Reading) (place : List ℤ) : Type 0 where
  pub size : length place ≡ 3
  pub ranges : all_in_range r ≡ true

module _ (r : Reading) (place : List ℤ) where
  -- "Refusals: 12 ..; before it, for every reading, 3": the first in this order, and 0 where none holds.
  pub point_first : FirstHeld (point_refusals r place) (point_code r place)
  unfolding no_zero point_code
  point_first = first_held (point_refusals r place) refl

  -- The numbers rise, so the first is the lowest.
  pub point_lowest : Lowest (point_refusals r place) (point_code r place)
  unfolding rises_from point_code
  point_lowest = first_lowest 1 (point_refusals r place) (omega arith) refl

  pub point_passed : point_code r place ≡ 0 → PointPassed r place
  point_passed e =
      let a = passed_parts (length_refusals 3 place) (value_refusals r) (point_first.done e) in
      record { size = length_passed 3 place a.0; ranges = not_false (all_in_range r) (a.1.fails 0) }

module _ (r : Reading) (place : List ℤ) (size : length place ≡ 3) where
  -- Where the place is three long the number is 0 or 12, by whether every value is in range.
  code_in_range : all_in_range r ≡ true → point_code r place ≡ 0
  unfolding point_code first_of
  code_in_range e = rw (eq-eqb (length place) 3 size, e)

  code_out_of_range : all_in_range r ≡ false → point_code r place ≡ 12
  unfolding point_code first_of
  code_out_of_range e = rw (eq-eqb (length place) 3 size, e)

  numbers_by : (t : Bool) → all_in_range r ≡ t → point_answer r place ≡ numbers_of (gives r)
  unfolding point_answer gives
  numbers_by true e = rw (code_in_range e)
  numbers_by false e = rw (code_out_of_range e, e)

  place_by : (t : Bool) → all_in_range r ≡ t → point_after r place ≡ place_of (gives r) place
  unfolding point_after gives
  place_by true e = rw (code_in_range e)
  place_by false e = rw (code_out_of_range e, e)

  -- What the reading gives then says what is answered, and what the place holds.
  pub point_numbers : point_answer r place ≡ numbers_of (gives r)
  point_numbers = numbers_by (all_in_range r) refl

  pub point_place : point_after r place ≡ place_of (gives r) place
  point_place = place_by (all_in_range r) refl

-- A reading in range is not refused.
becomes_done : (r : Reading) → (numbers_of (becomes r)).code ≡ 0
becomes_done (Colour c) = refl
becomes_done (Grey v) = refl
becomes_done Nothing = refl

-- Number i of the point is what value i becomes.
becomes_at : (r : Reading) (place : List ℤ) (i : ℕ) → i < length (values_of r) → get_or (place_of (becomes r) place) i (pos 0) ≡ coordinate_of (value_at r i)
becomes_at (Colour c) place zero l = refl
becomes_at (Colour c) place (suc zero) l = refl
becomes_at (Colour c) place (suc (suc zero)) l = refl
becomes_at (Colour c) place (suc (suc (suc i))) l = absurd (omega arith)
becomes_at (Grey v) place zero l = refl
becomes_at (Grey v) place (suc i) l = absurd (omega arith)
becomes_at Nothing place i l = absurd (omega arith)

-- A point that a reading in range becomes is coordinates throughout.
becomes_coordinates : (r : Reading) (place : List ℤ) → all_in_range r ≡ true → (numbers_of (becomes r)).made ≡ 1
    → every is_coordinate (place_of (becomes r) place) ≡ true
unfolding every
becomes_coordinates (Colour c) place e m =
    let a = and_true (in_range c.first) e in
    let b = and_true (in_range c.second) a.1 in
    let d = and_true (in_range c.third) b.1 in
    true_and (coordinate_of_range _ a.0) (true_and (coordinate_of_range _ b.0) (true_and (coordinate_of_range _ d.0) refl))
becomes_coordinates (Grey v) place e m = true_and (coordinate_of_range v (and_true (in_range v) e).0) refl
becomes_coordinates Nothing place e m = absurd (omega arith)

module _ (r : Reading) (place : List ℤ) where
  module _ (z : point_code r place ≡ 0) where
    gives_becomes : gives r ≡ becomes r
    unfolding gives
    gives_becomes = rw (point_passed r place z).ranges

    -- Done, the answer and the place are those of what the reading becomes.
    pub done_numbers : point_answer r place ≡ numbers_of (becomes r)
    done_numbers = point_numbers r place (point_passed r place z).size ∙ ap numbers_of gives_becomes

    pub done_place : point_after r place ≡ place_of (becomes r) place
    done_place = point_place r place (point_passed r place z).size ∙ ap (λ (g : Given). place_of g place) gives_becomes

    pub done_at : (i : ℕ) → i < length (values_of r) → get_or (point_after r place) i (pos 0) ≡ coordinate_of (value_at r i)
    done_at i l = rw done_place (becomes_at r place i l)

    -- Its values are finite.
    pub finite_at : (i : ℕ) → i < length (values_of r) → is_finite (value_at r i) ≡ true
    finite_at i l = (in_range_lem (value_at r i) (every_at in_range nan (values_of r) (point_passed r place z).ranges i l)).finite

  refused_makes_none : point_code r place ≢ 0 → (point_answer r place).made ≢ 1
  unfolding point_answer
  refused_makes_none n = λ m. let e = ap (λ (a : Making). a.made) (if_refused (point_code r place) (numbers_of (gives r)) (record { code = point_code r place; made = 0 }) n) in omega (arith, e, m)

  code_by : (c : ℕ) → point_code r place ≡ c → (point_answer r place).code ≡ point_code r place
  unfolding point_answer
  code_by zero z = rw z (ap (λ (a : Making). a.code) (ap numbers_of (gives_becomes z)) ∙ becomes_done r)
  code_by (suc c) z = rw z

  -- The answer's number is the refusal's, and 0 where none holds.
  pub answer_code : (point_answer r place).code ≡ point_code r place
  answer_code = code_by (point_code r place) refl

  -- What is made is coordinates throughout.
  pub made_coordinates : (point_answer r place).made ≡ 1 → every is_coordinate (point_after r place) ≡ true
  made_coordinates m = go (point_code r place) refl
    where
      go : (c : ℕ) → point_code r place ≡ c → every is_coordinate (point_after r place) ≡ true
      go zero z = rw (done_place z) (becomes_coordinates r place (point_passed r place z).ranges (rw (done_numbers z) at m))
      go (suc c) z = absurd (refused_makes_none (λ n. omega arith) m)

  -- Refused, the place is as it was.
  pub point_refused_after : point_code r place ≢ 0 → point_after r place ≡ place
  unfolding point_after
  point_refused_after n = if_refused (point_code r place) _ _ n

-- The answer reads of the place only how long it is.
pub point_answer_reads : (r : Reading) (p q : List ℤ) → length p ≡ length q → point_answer r p ≡ point_answer r q
unfolding point_answer point_code
point_answer_reads r p q size = rw size

-- Nothing measured: done or refused, no point is made, and the place is as it was.
pub nothing_made : (place : List ℤ) → (point_answer nothing place).made ≡ 0
unfolding point_answer gives every
nothing_made place = if_either (λ (a : Making). a.made) (point_code nothing place) _ _ refl refl

pub nothing_after : (place : List ℤ) → point_after nothing place ≡ place
unfolding point_after gives every
nothing_after place = if_either (λ (x : List ℤ). x) (point_code nothing place) _ _ refl refl
