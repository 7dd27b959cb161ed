-- The test of one point: the first refusal is its number, and what it has tested where that is 0.
use Rattle.std.specs.Prelude.{◌≡◌, List, ◌++◌, ℕ, ◌≤◌, length, ℤ, pos, negsuc}
use Rattle.std.proofs.Math.Path.{refl}
use Rattle.std.proofs.Common.{arith}
use Rattle.terms.specs.Tests.{every}
use Rattle.terms.specs.Lent.{Faces}
use Rattle.terms.specs.Points.{lone, is_coordinate}
use Rattle.terms.specs.Refusals.{Refusal, dimension_refusals, length_refusals, coordinate_refusals, face_refusals}
use Rattle.terms.specs.PlaceCall.{place_refusals, place_code}
use Rattle.theory.specs.Tested.{Coordinates, TestedFaces, within_each}
use Rattle.theory.specs.Flags.{not_false}
use Rattle.theory.specs.FirstRefusal.{FirstHeld, no_zero, first_held, passed_parts}
use Rattle.theory.specs.FirstRefusalIsLowest.{Lowest, rises_from, first_lowest}
use Rattle.theory.specs.RefusalsPassed.{dimension_passed, length_passed, faces_passed}

-- What the one-point test has tested: a point of k coordinates, in range, and the faces.
pub record PlacePassed (k : ℕ) (point : List ℤ) (f : Faces) : Type 0 where
  pub dimension : (1 ≤ k) × (k ≤ 4)
  pub size : length point ≡ k
  pub ranges : Coordinates k (lone point)
  pub faced : TestedFaces k f

module _ (k : ℕ) (point : List ℤ) (f : Faces) where
  -- "Each call tests those that concern its arguments", in the order of testing; and 0 where none holds.
  pub place_first : FirstHeld (place_refusals k point f) (place_code k point f)
  unfolding no_zero place_code
  place_first = first_held (place_refusals k point f) refl

  -- The numbers rise, so the first is the lowest: "the lowest that holds is returned".
  pub place_lowest : Lowest (place_refusals k point f) (place_code k point f)
  unfolding rises_from place_code
  place_lowest = first_lowest 1 (place_refusals k point f) (omega arith) refl

-- "One-point test: 1, 3, 5 to 8", and 11 "tested after 8".
pub place_passed : (k : ℕ) (point : List ℤ) (f : Faces) → place_code k point f ≡ 0 → PlacePassed k point f
place_passed k point f e =
    let D : List Refusal = dimension_refusals k in
    let L : List Refusal = length_refusals k point in
    let C : List Refusal = coordinate_refusals point in
    let F : List Refusal = face_refusals k f in
    let a = passed_parts D (L ++ C ++ F) ((place_first k point f).done e) in
    let b = passed_parts L (C ++ F) a.1 in
    let c = passed_parts C F b.1 in
    let size : length point ≡ k = length_passed k point b.0 in
    record {
      dimension = dimension_passed k a.0;
      size = size;
      ranges = record { ranges = λ d l. within_each (negsuc 32767) (pos 32767) point (not_false (every is_coordinate point) (c.0.fails 0)) d (omega arith) };
      faced = faces_passed k f c.1;
    }
