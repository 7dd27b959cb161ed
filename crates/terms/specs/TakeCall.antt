-- The take call: what it gives for any arguments, and the points and the live bytes afterwards.
use Rattle.std.specs.Prelude.{◌≡◌, List, ◌++◌, ℕ, ℤ}
use Rattle.terms.specs.declared.Taking.{Taking}
use Rattle.terms.specs.Lent.{stock}
use Rattle.terms.specs.Live.{live_count, lowest_dead, taken_live}
use Rattle.terms.specs.LivePoints.{taken_points}
use Rattle.terms.specs.Refusals.{
  Refusal,
  first_of,
  shape_refusals,
  length_refusals,
  live_refusals,
  live_coordinate_refusals,
  coordinate_refusals,
  full_refusals,
  if_done,
}

-- Take: 1, 2, 3, 15, 5, 16, with 3 and 5 also for the new point.
abbrev pub take_refusals : ℕ → ℕ → List ℤ → List ℕ → List ℤ → List Refusal
take_refusals k n points live point =
    shape_refusals k n points
    ++ length_refusals k point
    ++ live_refusals n live
    ++ live_coordinate_refusals (stock k n points live)
    ++ coordinate_refusals point
    ++ full_refusals n (live_count n live)

module _ (k n : ℕ) (points : List ℤ) (live : List ℕ) (point : List ℤ) where
  -- The number that the take call returns.
  unfoldable pub take_code : ℕ
  take_code = first_of (take_refusals k n points live point)

  -- The take call's answer: the lowest dead number, which is taken; of a refusal its number and 0.
  unfoldable pub take_answer : Taking
  take_answer = if_done take_code (record { code = 0; number = lowest_dead n live }) (record { code = take_code; number = 0 })

  -- The points after the call: the point stands at the lowest dead number; with a refusal, as they were.
  unfoldable pub take_points : List ℤ
  take_points = if_done take_code (taken_points k n points live point) points

  -- The live bytes after the call: the lowest dead number's is set; with a refusal, as they were.
  unfoldable pub take_live : List ℕ
  take_live = if_done take_code (taken_live n live) live

  -- What the take call does: its answer, and the points and the live bytes afterwards.
  pub record TakenAs (answer : Taking) (points_after : List ℤ) (live_after : List ℕ) : Type 0 where
    pub answered : answer ≡ take_answer
    pub written : points_after ≡ take_points
    pub marked : live_after ≡ take_live
