-- The calls that make a point from a reading: what they give for any arguments, and the lent place afterwards.
use Rattle.std.specs.Prelude.{◌≡◌, Some, None, Ok, Err, List, [], ◌∷◌, ◌++◌, ℕ, ℤ}
use Rattle.terms.specs.declared.Reading.{Reading}
use Rattle.terms.specs.declared.Making.{Making}
use Rattle.terms.specs.RefusalNumbers.{number_of}
use Rattle.terms.specs.Reading.{Given, gives}
use Rattle.terms.specs.Refusals.{Refusal, first_of, length_refusals, value_refusals, if_done}

-- The numbers for each case of what a reading gives, where the place is three long: a point is 0 and made, no point is 0, and out of range is its number, 12.
abbrev pub numbers_of : Given → Making
numbers_of (Ok (Some p)) = record { code = 0; made = 1 }
numbers_of (Ok None) = record { code = 0; made = 0 }
numbers_of (Err refusal) = record { code = number_of refusal; made = 0 }

-- The place for each case: the point's three numbers, or as it was.
abbrev pub place_of : Given → List ℤ → List ℤ
place_of (Ok (Some p)) place = p.first ∷ p.second ∷ p.third ∷ []
place_of (Ok None) place = place
place_of (Err refusal) place = place

-- A point from a reading: 3, then 12.
abbrev pub point_refusals : Reading → List ℤ → List Refusal
point_refusals r place = length_refusals 3 place ++ value_refusals r

module _ (r : Reading) (place : List ℤ) where
  -- The number that the call returns.
  unfoldable pub point_code : ℕ
  point_code = first_of (point_refusals r place)

  -- The call's answer: whether a point was made; of a refusal its number and 0.
  unfoldable pub point_answer : Making
  point_answer = if_done point_code (numbers_of (gives r)) (record { code = point_code; made = 0 })

  -- The place after the call: the point's three numbers; with no point or a refusal, as it was.
  unfoldable pub point_after : List ℤ
  point_after = if_done point_code (place_of (gives r) place) place

  -- What the call does: its answer, and the place afterwards.
  pub record MadeAs (answer : Making) (after : List ℤ) : Type 0 where
    pub answered : answer ≡ point_answer
    pub written : after ≡ point_after
