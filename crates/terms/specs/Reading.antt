-- Readings: what a reading gives. A colour is a point of three coordinates, a grey is its coordinate and 0 twice, and nothing measured is no point.
use Rattle.std.specs.Prelude.{Bool, cond, Option, Some, None, Result, Ok, Err, List, [], ◌∷◌, ℕ, get_or, pos, Float}
use Rattle.std.specs.Float.{nan}
use Rattle.terms.specs.declared.Reading.{Reading}
use Rattle.terms.specs.declared.Reading.TheVariants as reading
use Rattle.terms.specs.declared.Triple.{Triple}
use Rattle.terms.specs.declared.refusal.Refusal.{Refusal}
use Rattle.terms.specs.declared.refusal.Refusal.TheVariants.{ValueRange}
use Rattle.terms.specs.Tests.{every}
use Rattle.terms.specs.Value.{in_range, coordinate_of}

-- The reading as a call is handed it: a colour's three values, a grey's one, or nothing measured.
abbrev pub colour : Float → Float → Float → Reading
colour first second third = reading.Colour (record { first = first; second = second; third = third })

abbrev pub grey : Float → Reading
grey value = reading.Grey value

abbrev pub nothing : Reading
nothing = reading.Nothing

-- The values of a reading.
abbrev pub values_of : Reading → List Float
values_of (reading.Colour c) = c.first ∷ c.second ∷ c.third ∷ []
values_of (reading.Grey value) = value ∷ []
values_of reading.Nothing = []

-- Value i of a reading.
abbrev pub value_at : Reading → ℕ → Float
value_at r i = get_or (values_of r) i nan

-- Every value of the reading is in range.
abbrev pub all_in_range : Reading → Bool
all_in_range r = every in_range (values_of r)

-- What a reading gives: a point, or none where nothing was measured, or the refusal of a value that is not finite or out of range.
abbrev pub Given : Type 0
Given = Result (Option Triple) Refusal

-- What a reading gives whose values are in range.
abbrev pub becomes : Reading → Given
becomes (reading.Colour c) =
    Ok (Some (record { first = coordinate_of c.first; second = coordinate_of c.second; third = coordinate_of c.third }))
becomes (reading.Grey value) = Ok (Some (record { first = coordinate_of value; second = pos 0; third = pos 0 }))
becomes reading.Nothing = Ok None

-- What a reading gives, by whether its values are in range.
unfoldable pub gives : Reading → Given
gives r = cond (all_in_range r) (becomes r) (Err ValueRange)
