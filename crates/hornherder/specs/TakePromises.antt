-- What is promised of taking, read off the take call's contract. Each follows from `theory` in a line or two.
use Rattle.std.specs.Prelude.{◌≡◌, ◌≢◌, true, false, List, ℕ, ◌<◌, length, get_or, ℤ}
use Rattle.std.proofs.Math.Path.{refl, ap}
use Rattle.std.proofs.Common.{sym, ◌∙◌, arith, length-set, get_or-set_same, get_or-set_other}
use Rattle.terms.specs.declared.Taking.{Taking}
use Rattle.terms.specs.Points.{coord, lone}
use Rattle.terms.specs.Live.{is_live, live_count, lowest_dead, taken_live}
use Rattle.terms.specs.LivePoints.{taken_points}
use Rattle.terms.specs.TakeCall.{take_refusals, take_code, take_answer, TakenAs}
use Rattle.theory.specs.FirstRefusal.{FirstHeld, if_code}
use Rattle.theory.specs.LiveNumbers.{lowest_dead_lem, before_lowest_dead}
use Rattle.theory.specs.PointWritten.{written_length, written_here, written_elsewhere}
use Rattle.theory.specs.MembersAlike.{MembersAlike}
use Rattle.theory.specs.TakeCall.{
  TakePassed,
  take_first,
  take_passed,
  take_lacks_room,
  take_refused_answer,
  take_refused_points,
  take_refused_live,
  take_done_answer,
  take_done_points,
  take_done_live,
  take_room,
  take_answer_alike,
  take_live_alike,
  take_points_alike,
}

module _ (k n : ℕ) (points : List ℤ) (live : List ℕ) (point : List ℤ) {a : Taking} {x : List ℤ} {y : List ℕ} (e : TakenAs k n points live point a x y) where
  -- Two outcomes that satisfy the contract are equal.
  pub take_once : {b : Taking} {u : List ℤ} {v : List ℕ} → TakenAs k n points live point b u v → (a ≡ b) × (x ≡ u) × (y ≡ v)
  take_once f = (e.answered ∙ sym f.answered, e.written ∙ sym f.written, e.marked ∙ sym f.marked)

  pub take_number : a.code ≡ take_code k n points live point
  unfolding take_answer
  take_number = ap (λ (r : Taking). r.code) e.answered ∙ if_code (λ (r : Taking). r.code) (take_code k n points live point) _ _ refl refl

  -- "Take: 1, 2, 3, 15, 5, 16, with 3 and 5 also for the new point": the number is the first that holds in this order, and 0 where none does.
  pub take_answers_the_first : FirstHeld (take_refusals k n points live point) a.code
  take_answers_the_first = rw take_number (take_first k n points live point)

  -- A refusal changes no lent number.
  pub take_refused_writes_nothing : a.code ≢ 0 → (x ≡ points) × (y ≡ live)
  take_refused_writes_nothing m =
      let r : take_code k n points live point ≢ 0 = λ z. m (take_number ∙ z) in
      (e.written ∙ take_refused_points k n points live point r, e.marked ∙ take_refused_live k n points live point r)

  -- Of a refusal the other number is 0.
  pub take_refused_says_no_more : a.code ≢ 0 → a ≡ record { code = a.code; number = 0 }
  take_refused_says_no_more m = e.answered ∙ take_refused_answer k n points live point (λ z. m (take_number ∙ z)) ∙ rw (← take_number) refl

  -- "it lacks room only when all n are live"
  pub take_lacks_room_only_when_all_live : a.code ≡ 16 → live_count n live ≡ n
  take_lacks_room_only_when_all_live z = take_lacks_room k n points live point (sym take_number ∙ z)

  module _ (done : a.code ≡ 0) where
    passed : take_code k n points live point ≡ 0
    passed = sym take_number ∙ done

    tested : TakePassed k n points live point
    tested = take_passed k n points live point passed

    -- "it answers the number taken"
    pub take_answers_the_number_taken : a.number ≡ lowest_dead n live
    take_answers_the_number_taken = ap (λ (r : Taking). r.number) (e.answered ∙ take_done_answer k n points live point passed)

    points_are : x ≡ taken_points k n points live point
    points_are = e.written ∙ take_done_points k n points live point passed

    live_are : y ≡ taken_live n live
    live_are = e.marked ∙ take_done_live k n points live point passed

    -- "Taking writes a point at the lowest dead number": the number answered was one of n and dead, and those before it were live.
    pub take_answers_a_dead_number : (a.number < n) × (is_live n live a.number ≡ false)
    take_answers_a_dead_number = rw take_answers_the_number_taken (tested.dead, lowest_dead_lem n live tested.dead)

    pub take_answers_the_lowest_dead : (p : ℕ) → p < a.number → is_live n live p ≡ true
    take_answers_the_lowest_dead = rw take_answers_the_number_taken (before_lowest_dead n live)

    -- The number answered has the point, coordinate by coordinate.
    pub take_writes_the_point : (d : ℕ) → d < k → coord k x a.number d ≡ lone point d
    take_writes_the_point d l = rw (take_answers_the_number_taken, points_are)
        (written_here k points (lowest_dead n live) point tested.point_size (take_room k n points live point passed) d l)

    -- Every other number, dead or live, has the coordinates it had; as many are lent as before.
    pub take_leaves_other_points : (q d : ℕ) → q ≢ a.number → d < k → coord k x q d ≡ coord k points q d
    take_leaves_other_points q d other l = rw points_are
        (written_elsewhere k points (lowest_dead n live) point tested.point_size (take_room k n points live point passed) q d (λ z. other (z ∙ sym take_answers_the_number_taken)) l)

    pub take_keeps_places : (length x ≡ length points) × (length y ≡ length live)
    take_keeps_places = rw (points_are, live_are) (
      written_length k points (lowest_dead n live) point tested.point_size (take_room k n points live point passed),
      length-set live (lowest_dead n live) 1,
    )

    -- "and sets its byte": every other byte is as it was.
    pub take_sets_its_byte : get_or y a.number 0 ≡ 1
    take_sets_its_byte = rw (take_answers_the_number_taken, live_are) (get_or-set_same live (lowest_dead n live) 1 0 (omega (arith, tested.dead, tested.live_tested.bytes)))

    pub take_leaves_other_bytes : (q : ℕ) → q ≢ a.number → get_or y q 0 ≡ get_or live q 0
    take_leaves_other_bytes q other = rw live_are (get_or-set_other live (lowest_dead n live) q 1 0 (λ z. other (z ∙ sym take_answers_the_number_taken)))

-- "No answer depends on a dead number's coordinates": two takes that differ only there give the same answer and the same live bytes, and leave the same
-- coordinates at every number that is live afterwards.
pub take_reads_no_dead_point : (k n : ℕ) (live : List ℕ) (point points others : List ℤ) → MembersAlike k (is_live n live) points others
    → {a b : Taking} {x u : List ℤ} {y v : List ℕ} → TakenAs k n points live point a x y → TakenAs k n others live point b u v
    → (a ≡ b) × (y ≡ v) × MembersAlike k (is_live n y) x u
take_reads_no_dead_point k n live point points others w e f = (
  e.answered ∙ take_answer_alike k n live point w ∙ sym f.answered,
  e.marked ∙ take_live_alike k n live point w ∙ sym f.marked,
  rw (e.marked, e.written, f.written) (take_points_alike k n live point w),
)
