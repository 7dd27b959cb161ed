-- The demands, read off the contract of the calls that make a point. Each follows from `theory` in a line or two.
use Rattle.std.specs.Prelude.{◌≡◌, ◌≢◌, true, List, [], ◌++◌, ℕ, ◌<◌, length, get_or, ℤ, pos, ◌*ℤ◌, ◌≤ℤ◌}
use Rattle.std.proofs.Math.Path.{refl}
use Rattle.std.proofs.Common.{sym, ap, ◌∙◌, arith}
use Rattle.std.specs.Float.Ieee.{le}
use Rattle.terms.specs.declared.Reading.{Reading}
use Rattle.terms.specs.declared.Making.{Making}
use Rattle.terms.specs.declared.Screening.{Screening}
use Rattle.terms.specs.declared.Explaining.{Explaining}
use Rattle.terms.specs.declared.Placing.{Placing}
use Rattle.terms.specs.declared.Listing.{Listing}
use Rattle.terms.specs.declared.Arranging.{Arranging}
use Rattle.terms.specs.declared.Taking.{Taking}
use Rattle.terms.specs.Tests.{every}
use Rattle.terms.specs.Lent.{Stock, Order, Faces, Regions}
use Rattle.terms.specs.Live.{is_live}
use Rattle.terms.specs.Points.{point_of, is_coordinate, belongs_to}
use Rattle.terms.specs.LivePoints.{members_in_range}
use Rattle.terms.specs.Value.{numerator, denominator}
use Rattle.terms.specs.Reading.{nothing, values_of, value_at, gives}
use Rattle.terms.specs.PointCall.{numbers_of, place_of, point_refusals, point_code, point_answer, MadeAs}
use Rattle.terms.specs.ArrangeCall.{ArrangedAs}
use Rattle.terms.specs.ListCall.{ListedAs}
use Rattle.terms.specs.ListRegionsCall.{RegionsListedAs}
use Rattle.terms.specs.ScreenCall.{screen_answer}
use Rattle.terms.specs.ExplainCall.{explain_answer}
use Rattle.terms.specs.PlaceCall.{place_answer}
use Rattle.terms.specs.TakeCall.{TakenAs}
use Rattle.theory.specs.Flags.{true_and}
use Rattle.theory.specs.Counting.{every_append}
use Rattle.theory.specs.Floors.{IsFloor}
use Rattle.theory.specs.Values.{coordinate_is_floor, coordinate_rises}
use Rattle.theory.specs.FirstRefusal.{FirstHeld, if_refused}
use Rattle.theory.specs.FirstRefusalIsLowest.{Lowest}
use Rattle.theory.specs.PointsInRange.{blind_in_range}
use Rattle.theory.specs.NeverRefused.{
  never_answered,
  arrange_never_five,
  list_never_five,
  list_regions_never_five,
  screen_never_five,
  explain_never_five,
  take_never_five,
  place_never_five,
}
use Rattle.theory.specs.PointCall.{
  point_first,
  point_lowest,
  point_numbers,
  point_place,
  point_refused_after,
  point_answer_reads,
  answer_code,
  done_at,
  made_coordinates,
  finite_at,
  nothing_made,
  nothing_after,
}
use Rattle.hornherder.specs.ArrangePromises.{arrange_answers_the_first}
use Rattle.hornherder.specs.ListPromises.{list_answers_the_first}
use Rattle.hornherder.specs.ListRegionsPromises.{list_regions_answers_the_first}
use Rattle.hornherder.specs.ScreenPromises.{screen_answers_the_first}
use Rattle.hornherder.specs.TakePromises.{take_answers_the_first}
use Rattle.hornherder.specs.ExplainPromises.{explain_answers_the_first}
use Rattle.hornherder.specs.PlacePromises.{place_answers_the_first}

module _ (r : Reading) (place : List ℤ) {a : Making} {x : List ℤ} (e : MadeAs r place a x) where
  -- Two outcomes that satisfy the contract are equal.
  pub point_once : {b : Making} {y : List ℤ} → MadeAs r place b y → (a ≡ b) × (x ≡ y)
  point_once f = (e.answered ∙ sym f.answered, e.written ∙ sym f.written)

  point_code_lem : a.code ≡ point_code r place
  point_code_lem = ap (λ (m : Making). m.code) e.answered ∙ answer_code r place

  -- The number is the first refusal that holds, 3 before 12, and 0 where none does; the numbers rise, so it is the lowest.
  pub point_answers_the_first : FirstHeld (point_refusals r place) a.code
  point_answers_the_first = rw point_code_lem (point_first r place)

  pub point_answers_the_lowest : Lowest (point_refusals r place) a.code
  point_answers_the_lowest = rw point_code_lem (point_lowest r place)

  -- "All three places untouched": a refusal changes no lent number.
  pub point_refused_writes_nothing : a.code ≢ 0 → x ≡ place
  point_refused_writes_nothing m = e.written ∙ point_refused_after r place (λ z. m (point_code_lem ∙ z))

  -- Of a refusal the other number is 0.
  pub point_refused_says_no_more : a.code ≢ 0 → a ≡ record { code = a.code; made = 0 }
  unfolding point_answer
  point_refused_says_no_more m =
      let n : point_code r place ≢ 0 = λ z. m (point_code_lem ∙ z) in
      e.answered ∙ if_refused (point_code r place) _ _ n ∙ rw (← point_code_lem) refl

  -- Where the place is three long, the numbers and the place are those of what the reading gives.
  pub point_is_what_the_reading_gives : length place ≡ 3 → (a ≡ numbers_of (gives r)) × (x ≡ place_of (gives r) place)
  point_is_what_the_reading_gives size = (e.answered ∙ point_numbers r place size, e.written ∙ point_place r place size)

  -- "The greatest whole number not above 256 times v": number i of the point is at most 256 times value i, and the next whole number is greater.
  pub point_numbers_are_floors : a.code ≡ 0 → (i : ℕ) → i < length (values_of r)
      → IsFloor (get_or x i (pos 0)) (pos 256 *ℤ numerator (value_at r i)) (denominator (value_at r i))
  point_numbers_are_floors z i l = rw (e.written, done_at r place (sym point_code_lem ∙ z) i l) (coordinate_is_floor (value_at r i))

  -- The numbers made are coordinates.
  pub made_numbers_are_coordinates : a.made ≡ 1 → every is_coordinate x ≡ true
  made_numbers_are_coordinates m = rw e.written (made_coordinates r place (ap (λ (b : Making). b.made) (sym e.answered) ∙ m))

-- The answer does not depend on what the place holds, only on how long it is.
pub point_answer_reads_no_number : (r : Reading) (p q : List ℤ) → length p ≡ length q → {a b : Making} {x y : List ℤ} → MadeAs r p a x → MadeAs r q b y → a ≡ b
point_answer_reads_no_number r p q size e f = e.answered ∙ point_answer_reads r p q size ∙ sym f.answered

-- "Nothing measured gives no point, and the three lent places are untouched."
pub nothing_makes_no_point : (place : List ℤ) {a : Making} {x : List ℤ} → MadeAs nothing place a x → (a.made ≡ 0) × (x ≡ place)
nothing_makes_no_point place e = (ap (λ (b : Making). b.made) e.answered ∙ nothing_made place, e.written ∙ nothing_after place)

-- The result never falls as the value rises: of two points made, for any two values of their readings.
pub point_numbers_rise : (r s : Reading) (p q : List ℤ) {a b : Making} {x y : List ℤ} → MadeAs r p a x → MadeAs s q b y → a.code ≡ 0 → b.code ≡ 0
    → (i j : ℕ) → i < length (values_of r) → j < length (values_of s) → le (value_at r i) (value_at s j) ≡ true → get_or x i (pos 0) ≤ℤ get_or y j (pos 0)
point_numbers_rise r s p q e f z w i j l m v =
    let c = sym (point_code_lem r p e) ∙ z in
    let d = sym (point_code_lem s q f) ∙ w in
    rw (e.written, f.written, done_at r p c i l, done_at s q d j m) (coordinate_rises (value_at r i) (value_at s j) (finite_at r p c i l) (finite_at s q d j m) v)

-- ---- the points made are never refused by 5

-- Points that were made, one after another.
pub data MadePoints : List ℤ → Type 0 where
  none_made : MadePoints []
  one_more : (r : Reading) (place : List ℤ) {a : Making} {x points : List ℤ} → MadeAs r place a x → a.made ≡ 1 → MadePoints points → MadePoints (x ++ points)

made_points_fit : {points : List ℤ} → MadePoints points → every is_coordinate points ≡ true
unfolding every
made_points_fit none_made = refl
made_points_fit (one_more r place {x = x} {points} e m w) =
    every_append is_coordinate x points ∙ true_and (made_numbers_are_coordinates r place e m) (made_points_fit w)

module _ (s : Stock) (o : Order) (made : MadePoints s.points) where
  in_range_lem : members_in_range s.k (point_of s) (belongs_to s) s.n ≡ true
  in_range_lem = blind_in_range s.k s.points (belongs_to s) s.n (made_points_fit made)

  pub arrange_takes_made_points : {a : Arranging} {x : Order} → ArrangedAs s o a x → a.code ≢ 5
  arrange_takes_made_points e = never_answered (omega arith) (arrange_never_five s o in_range_lem) (arrange_answers_the_first e)

  pub list_takes_made_points : (f : Faces) (list : List ℕ) {a : Listing} {x : List ℕ} → ListedAs s o f list a x → a.code ≢ 5
  list_takes_made_points f list e = never_answered (omega arith) (list_never_five s o in_range_lem f list) (list_answers_the_first s o f list e)

  pub list_regions_takes_made_points : (g : Regions) (lists counts : List ℕ) {a : ℕ} {x y : List ℕ} → RegionsListedAs s o g lists counts a x y → a ≢ 5
  list_regions_takes_made_points g lists counts e =
      never_answered (omega arith) (list_regions_never_five s o in_range_lem g lists counts) (list_regions_answers_the_first s o g lists counts e)

  pub screen_takes_made_points : (f : Faces) {a : Screening} → a ≡ screen_answer s o f → a.code ≢ 5
  screen_takes_made_points f e = never_answered (omega arith) (screen_never_five s o in_range_lem f) (screen_answers_the_first s o f e)

  pub explain_takes_made_points : (f : Faces) (p : ℕ) {a : Explaining} → a ≡ explain_answer s o f p → a.code ≢ 5
  explain_takes_made_points f p e = never_answered (omega arith) (explain_never_five s o in_range_lem f p) (explain_answers_the_first s o f p e)

pub take_takes_made_points : (k n : ℕ) (points : List ℤ) (live : List ℕ) (point : List ℤ) → MadePoints points → MadePoints point
    → {a : Taking} {x : List ℤ} {y : List ℕ} → TakenAs k n points live point a x y → a.code ≢ 5
take_takes_made_points k n points live point made own e =
    never_answered
    (omega arith)
    (take_never_five k n points live point (blind_in_range k points (is_live n live) n (made_points_fit made)) (made_points_fit own))
    (take_answers_the_first k n points live point e)

pub place_takes_made_points : (k : ℕ) (point : List ℤ) (f : Faces) → MadePoints point → {a : Placing} → a ≡ place_answer k point f → a.code ≢ 5
place_takes_made_points k point f made e = never_answered (omega arith) (place_never_five k point f (made_points_fit made)) (place_answers_the_first k point f e)
