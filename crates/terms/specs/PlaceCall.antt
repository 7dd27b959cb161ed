-- The test of one point: what it gives for any arguments.
use Rattle.std.specs.Prelude.{List, ◌++◌, ℕ, ltb, ℤ, pos}
use Rattle.terms.specs.declared.Placing.{Placing}
use Rattle.terms.specs.Tests.{bit}
use Rattle.terms.specs.Lent.{Faces}
use Rattle.terms.specs.Points.{lone}
use Rattle.terms.specs.Region.{region, inside}
use Rattle.terms.specs.Margin.{least_margin, least_face}
use Rattle.terms.specs.Refusals.{Refusal, first_of, dimension_refusals, length_refusals, coordinate_refusals, face_refusals, if_done}

-- One-point test: 1, 3, 5 to 8, 11.
abbrev pub place_refusals : ℕ → List ℤ → Faces → List Refusal
place_refusals k point f = dimension_refusals k ++ length_refusals k point ++ coordinate_refusals point ++ face_refusals k f

module _ (k : ℕ) (point : List ℤ) (f : Faces) where
  -- The number that the one-point test returns.
  unfoldable pub place_code : ℕ
  place_code = first_of (place_refusals k point f)

  -- The one-point test's answer: 1 inside, 0 outside; where there are faces 1, the lowest-numbered one with the least margin, and that margin; of a
  -- refusal its number and zeros.
  unfoldable pub place_answer : Placing
  place_answer = if_done
      place_code
      (record {
        code = 0;
        inside = bit (inside (region k f) (lone point));
        measured = bit (ltb 0 f.h);
        face = least_face (region k f) (lone point);
        margin = least_margin (region k f) (lone point);
      })
      (record { code = place_code; inside = 0; measured = 0; face = 0; margin = pos 0 })
