-- What a reading gives, from the tests of its values and the coordinates that they become.
use Rattle.std.specs.Prelude.{◌≡◌, refl, Bool, true, false, ◌&&◌, cond, Some, Result, Ok, Err, ℤ, pos, Float}
use Rattle.std.proofs.Common.{sym, ◌∙◌}
use Rattle.terms.specs.declared.Colour.{Colour}
use Rattle.terms.specs.declared.Reading.{Reading}
use Rattle.terms.specs.declared.Reading.TheVariants as reading
use Rattle.terms.specs.declared.refusal.Refusal.{Refusal}
use Rattle.terms.specs.declared.refusal.Refusal.TheVariants.{ValueRange}
use Rattle.terms.specs.Tests.{every}
use Rattle.terms.specs.Value.{in_range, coordinate_of}
use Rattle.terms.specs.Reading.{all_in_range, gives}
use Rattle.theory.specs.Flags.{and_true, and_yes}

-- The coordinate that a value becomes, or the refusal of one that is not in range.
abbrev pub coordinate_given : Float → Result ℤ Refusal
coordinate_given v = cond (in_range v) (Ok (coordinate_of v)) (Err ValueRange)

-- A value that gave a coordinate is in range, and it is that coordinate; one that was refused is not.
pub coordinate_made : (v : Float) {x : ℤ} → Ok x ≡ coordinate_given v → (in_range v ≡ true) × (x ≡ coordinate_of v)
coordinate_made v {x} = go (in_range v)
  where
    go : (t : Bool) → Ok x ≡ cond t (Ok (coordinate_of v)) (Err ValueRange) → (t ≡ true) × (x ≡ coordinate_of v)
    go true e = (refl, cc)
    go false e = (cc, cc)

pub coordinate_refused : (v : Float) {r : Refusal} → Err r ≡ coordinate_given v → (in_range v ≡ false) × (r ≡ ValueRange)
coordinate_refused v {r} = go (in_range v)
  where
    go : (t : Bool) → Err r ≡ cond t (Ok (coordinate_of v)) (Err ValueRange) → (t ≡ false) × (r ≡ ValueRange)
    go true e = (cc, cc)
    go false e = (refl, cc)

-- The three tests of a colour are the test of the reading.
pub colour_tested : (c : Colour) {r s t : Bool} → r ≡ in_range c.first → s ≡ in_range c.second → t ≡ in_range c.third
    → r && (s && t) ≡ all_in_range (reading.Colour c)
unfolding every
colour_tested c p q r = rw (p, q, r, and_yes (in_range c.third) refl) refl

-- A colour in range, value by value.
pub record ColourInRange (c : Colour) : Type 0 where
  pub first : in_range c.first ≡ true
  pub second : in_range c.second ≡ true
  pub third : in_range c.third ≡ true

pub colour_in_range : (c : Colour) → all_in_range (reading.Colour c) ≡ true → ColourInRange c
unfolding every
colour_in_range c e =
    let a = and_true (in_range c.first) e in
    let b = and_true (in_range c.second) a.1 in
    record { first = a.0; second = b.0; third = (and_true (in_range c.third) b.1).0 }

-- The one test of a grey is that of the reading.
pub grey_tested : (v : Float) {t : Bool} → t ≡ in_range v → t ≡ all_in_range (reading.Grey v)
unfolding every
grey_tested v p = p ∙ sym (and_yes (in_range v) refl)

-- Three values in range are a colour in range.
pub colour_ranges : (c : Colour) → in_range c.first ≡ true → in_range c.second ≡ true → in_range c.third ≡ true → all_in_range (reading.Colour c) ≡ true
unfolding every
colour_ranges c p q r = rw (p, q, r) refl

pub colour_given : (c : Colour) → all_in_range (reading.Colour c) ≡ true → {x y z : ℤ}
    → x ≡ coordinate_of c.first → y ≡ coordinate_of c.second → z ≡ coordinate_of c.third
    → Ok (Some (record { first = x; second = y; third = z })) ≡ gives (reading.Colour c)
unfolding gives
colour_given c e p q r = rw (e, p, q, r) refl

-- The grey's two other numbers are 0.
pub grey_given : (v : Float) → all_in_range (reading.Grey v) ≡ true → {x y z : ℤ} → x ≡ coordinate_of v → y ≡ pos 0 → z ≡ pos 0
    → Ok (Some (record { first = x; second = y; third = z })) ≡ gives (reading.Grey v)
unfolding gives
grey_given v e p q r = rw (e, p, q, r) refl

pub none_given : (r : Reading) → all_in_range r ≡ false → Err ValueRange ≡ gives r
unfolding gives
none_given r e = rw e refl
