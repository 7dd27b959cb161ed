-- The take call: the first refusal is its number, what it has tested where that is 0, what it then leaves, and that it reads no dead number's coordinates.
use Rattle.std.specs.Prelude.{◌≡◌, ◌≢◌, Bool, true, false, List, ◌++◌, ℕ, zero, suc, ◌+◌, ◌*◌, ◌≤◌, ◌<◌, length, ℤ, eqb}
use Rattle.std.proofs.Math.Path.{refl}
use Rattle.std.proofs.Common.{sym, ◌∙◌, arith, eqb-true, eq-eqb, lt-ltb}
use Rattle.terms.specs.Tests.{every}
use Rattle.terms.specs.Lent.{stock}
use Rattle.terms.specs.Points.{coord, is_coordinate}
use Rattle.terms.specs.Live.{is_live, live_count, lowest_dead, taken_live}
use Rattle.terms.specs.LivePoints.{members_in_range, taken_points}
use Rattle.terms.specs.Refusals.{
  Refusal,
  shape_refusals,
  length_refusals,
  live_refusals,
  live_coordinate_refusals,
  coordinate_refusals,
  full_refusals,
  if_done,
}
use Rattle.terms.specs.Changes.{Change, taken, refused, may_change, changed_live}
use Rattle.terms.specs.TakeCall.{take_refusals, take_code, take_answer, take_points, take_live}
use Rattle.theory.specs.Flags.{true_and, not_false}
use Rattle.theory.specs.Tested.{point_places}
use Rattle.theory.specs.FirstRefusal.{FirstHeld, no_zero, first_held, passed_parts, if_refused}
use Rattle.theory.specs.RefusalsPassed.{
  PointsShaped,
  shape_passed,
  length_passed,
  LiveTested,
  live_passed,
  live_coordinates_passed,
  full_passed,
}
use Rattle.theory.specs.LiveNumbers.{some_dead}
use Rattle.theory.specs.MembersAlike.{MembersAlike, in_range_alike, written_alike}
use Rattle.theory.specs.NeverRefused.{never_holds, never_answered}

-- What the take call has tested: the stock's shape, a point of k, the live bytes, coordinates in range, and that a number is dead.
pub record TakePassed (k n : ℕ) (points : List ℤ) (live : List ℕ) (point : List ℤ) : Type 0 where
  pub shaped : PointsShaped k n points
  pub point_size : length point ≡ k
  pub live_tested : LiveTested n live
  pub ranges : members_in_range k (coord k points) (is_live n live) n ≡ true
  pub point_ranges : every is_coordinate point ≡ true
  pub dead : lowest_dead n live < n

module _ (k n : ℕ) (points : List ℤ) (live : List ℕ) (point : List ℤ) where
  -- "Take: 1, 2, 3, 15, 5, 16, with 3 and 5 also for the new point": the first in this order, and 0 where none holds.
  pub take_first : FirstHeld (take_refusals k n points live point) (take_code k n points live point)
  unfolding no_zero take_code
  take_first = first_held (take_refusals k n points live point) refl

  pub take_passed : take_code k n points live point ≡ 0 → TakePassed k n points live point
  take_passed e =
      let L : List Refusal = length_refusals k point in
      let B : List Refusal = live_refusals n live in
      let C : List Refusal = live_coordinate_refusals (stock k n points live) in
      let P : List Refusal = coordinate_refusals point in
      let F : List Refusal = full_refusals n (live_count n live) in
      let a = passed_parts (shape_refusals k n points) (L ++ B ++ C ++ P ++ F) (take_first.done e) in
      let b = passed_parts L (B ++ C ++ P ++ F) a.1 in
      let c = passed_parts B (C ++ P ++ F) b.1 in
      let d = passed_parts C (P ++ F) c.1 in
      let f = passed_parts P F d.1 in
      record {
        shaped = shape_passed k n points a.0;
        point_size = length_passed k point b.0;
        live_tested = live_passed n live c.0;
        ranges = live_coordinates_passed (stock k n points live) d.0;
        point_ranges = not_false (every is_coordinate point) (f.0.fails 0);
        dead = some_dead n live (full_passed n (live_count n live) f.1);
      }

  room_never_sixteen : eqb (live_count n live) n ≡ false → never_holds 16 (take_refusals k n points live point) ≡ true
  unfolding never_holds
  room_never_sixteen e = rw e

  -- "it lacks room only when all n are live"
  pub take_lacks_room : take_code k n points live point ≡ 16 → live_count n live ≡ n
  take_lacks_room e = go (eqb (live_count n live) n) refl
    where
      go : (t : Bool) → eqb (live_count n live) n ≡ t → live_count n live ≡ n
      go true f = eqb-true (live_count n live) n f
      go false f = absurd (never_answered (omega arith) (room_never_sixteen f) take_first e)

  -- Refused, the answer is the number and 0, and points and live bytes are as they were.
  module _ (m : take_code k n points live point ≢ 0) where
    pub take_refused_answer : take_answer k n points live point ≡ record { code = take_code k n points live point; number = 0 }
    unfolding take_answer
    take_refused_answer = if_refused (take_code k n points live point) _ _ m

    pub take_refused_points : take_points k n points live point ≡ points
    unfolding take_points
    take_refused_points = if_refused (take_code k n points live point) _ _ m

    pub take_refused_live : take_live k n points live point ≡ live
    unfolding take_live
    take_refused_live = if_refused (take_code k n points live point) _ _ m

  -- Done, the answer is the lowest dead number, which has the point and is live.
  module _ (z : take_code k n points live point ≡ 0) where
    pub take_done_answer : take_answer k n points live point ≡ record { code = 0; number = lowest_dead n live }
    unfolding take_answer
    take_done_answer = rw z

    pub take_done_points : take_points k n points live point ≡ taken_points k n points live point
    unfolding take_points
    take_done_points = rw z

    pub take_done_live : take_live k n points live point ≡ taken_live n live
    unfolding take_live
    take_done_live = rw z

    -- Its places are among those lent.
    pub take_room : lowest_dead n live * k + k ≤ length points
    take_room = let w = take_passed z in point_places k n points w.shaped.size w.dead

  -- What the call came to is a change that the live bytes allow, and it leaves what that change leaves.
  abbrev pub take_change : Change
  take_change = if_done (take_code k n points live point) taken refused

  pub take_changes : (may_change n live take_change ≡ true) × (take_live k n points live point ≡ changed_live n live take_change)
  take_changes = go (take_code k n points live point) refl
    where
      go : (c : ℕ) → take_code k n points live point ≡ c
          → (may_change n live take_change ≡ true) × (take_live k n points live point ≡ changed_live n live take_change)
      go zero z =
          let w = take_passed z in
          rw z (true_and (eq-eqb (length live) n w.live_tested.bytes) (lt-ltb (lowest_dead n live) n w.dead), take_done_live z)
      go (suc c) z = rw z (refl, take_refused_live (λ e. omega arith))

-- ---- "No answer depends on a dead number's coordinates"
module _ (k n : ℕ) (live : List ℕ) (point : List ℤ) {points others : List ℤ} (w : MembersAlike k (is_live n live) points others) where
  pub take_code_alike : take_code k n points live point ≡ take_code k n others live point
  unfolding take_code
  take_code_alike = rw (w.sizes, in_range_alike w n)

  pub take_answer_alike : take_answer k n points live point ≡ take_answer k n others live point
  unfolding take_answer
  take_answer_alike = rw take_code_alike

  pub take_live_alike : take_live k n points live point ≡ take_live k n others live point
  unfolding take_live
  take_live_alike = rw take_code_alike

  -- Afterwards the points are alike at every number that is live then.
  pub take_points_alike : MembersAlike k (is_live n (take_live k n points live point)) (take_points k n points live point) (take_points k n others live point)
  take_points_alike = go (take_code k n points live point) refl
    where
      go : (c : ℕ) → take_code k n points live point ≡ c
          → MembersAlike k (is_live n (take_live k n points live point)) (take_points k n points live point) (take_points k n others live point)
      go zero z =
          let p = take_passed k n points live point z in
          rw (take_done_live k n points live point z, take_done_points k n points live point z, take_done_points k n others live point (sym take_code_alike ∙ z))
          (written_alike k n live w (lowest_dead n live) point p.point_size (take_room k n points live point z))
      go (suc c) z =
          let m : take_code k n points live point ≢ 0 = λ e. omega arith in
          rw (take_refused_live k n points live point m, take_refused_points k n points live point m, take_refused_points k n others live point (λ e. m (take_code_alike ∙ e))) w
