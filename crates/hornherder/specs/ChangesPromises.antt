-- What is promised of takes and withdrawals one after the other, read off the contracts of both calls.
use Rattle.std.specs.Prelude.{◌≡◌, refl, ◌≢◌, true, List, [], ◌∷◌, ℕ, ◌+◌, ◌≤◌, ℤ}
use Rattle.std.proofs.Common.{sym, ◌∙◌, arith}
use Rattle.terms.specs.declared.Taking.{Taking}
use Rattle.terms.specs.Tests.{count}
use Rattle.terms.specs.Live.{live_count, lowest_dead}
use Rattle.terms.specs.Refusals.{if_done}
use Rattle.terms.specs.Changes.{Change, taken, withdrawn, refused, may_change, changed_live, may_change_all, changed_all, is_taken, is_withdrawn}
use Rattle.terms.specs.TakeCall.{TakenAs}
use Rattle.terms.specs.WithdrawCall.{WithdrawnAs}
use Rattle.theory.specs.Flags.{true_and}
use Rattle.theory.specs.LiveNumbers.{live_under, full_none_dead, freed_first, changes_total}
use Rattle.theory.specs.TakeCall.{take_changes}
use Rattle.theory.specs.WithdrawCall.{withdraw_passed, withdraw_done_live, withdraw_changes}
use Rattle.hornherder.specs.TakePromises.{take_number, take_answers_the_number_taken, take_lacks_room_only_when_all_live}

module _ (n p : ℕ) (live : List ℕ) {y : List ℕ} (e : WithdrawnAs n p live 0 y) (k : ℕ) (points point : List ℤ) {a : Taking} {x : List ℤ} {v : List ℕ}
    (f : TakenAs k n points y point a x v) where
  freed : lowest_dead n y ≤ p
  freed =
      let t = withdraw_passed n p live (sym e.answered) in
      let at_most = freed_first n live t.live_tested.bytes p (live_under n live p t.alive) in
      rw (e.marked, withdraw_done_live n p live (sym e.answered)) at_most

  -- "so freed room is used first": a take after a withdrawal answers the number withdrawn or a lower one, and does not lack room.
  pub freed_room_is_used_first : a.code ≡ 0 → a.number ≤ p
  freed_room_is_used_first done = rw (take_answers_the_number_taken k n points y point f done) freed

  pub freed_room_is_room : a.code ≢ 16
  freed_room_is_room z =
      let t = withdraw_passed n p live (sym e.answered) in
      let full = full_none_dead n y (take_lacks_room_only_when_all_live k n points y point f z) in
      omega (arith, freed, full, live_under n live p t.alive)

-- One of the two calls, whose contract is met: from the points and the live bytes before it to those after it, and what it came to.
pub data Step (n : ℕ) (points : List ℤ) (live : List ℕ) : List ℤ → List ℕ → Change → Type 0 where
  take_step : (k : ℕ) (point : List ℤ) {a : Taking} {x : List ℤ} {y : List ℕ} → TakenAs k n points live point a x y
      → Step n points live x y (if_done a.code taken refused)
  withdraw_step : (p : ℕ) {a : ℕ} {y : List ℕ} → WithdrawnAs n p live a y → Step n points live points y (if_done a (withdrawn p) refused)

-- Any number of them, each beginning with the points and the live bytes that the one before left.
pub data Steps (n : ℕ) : List ℤ → List ℕ → List ℤ → List ℕ → List Change → Type 0 where
  no_step : {points : List ℤ} {live : List ℕ} → Steps n points live points live []
  one_more : {points x u : List ℤ} {live y v : List ℕ} {c : Change} {cs : List Change} → Step n points live x y c → Steps n x y u v cs → Steps n points live u v (c ∷ cs)

-- What a call came to is a change that the live bytes allow, and it leaves what that change leaves.
step_changes : {n : ℕ} {points x : List ℤ} {live y : List ℕ} {c : Change} → Step n points live x y c
    → (may_change n live c ≡ true) × (y ≡ changed_live n live c)
step_changes {n} {points} {live = live} (take_step k point e) =
    let w = take_changes k n points live point in
    rw (take_number k n points live point e) (w.0, e.marked ∙ w.1)
step_changes {n} {live = live} (withdraw_step p e) =
    let w = withdraw_changes n p live in
    rw e.answered (w.0, e.marked ∙ w.1)

steps_change : {n : ℕ} {points u : List ℤ} {live v : List ℕ} {cs : List Change} → Steps n points live u v cs
    → (may_change_all n live cs ≡ true) × (v ≡ changed_all n live cs)
unfolding may_change_all changed_all
steps_change no_step = (refl, refl)
steps_change (one_more s ss) =
    let a = step_changes s in
    let b = steps_change ss in
    rw (← a.1) (true_and a.0 b.0, b.1)

-- "The total live after any sequence of these two calls is the starting total plus takes done minus withdrawals done": the total after and the withdrawals
-- done are the total before and the takes done. Refused calls may be among them.
pub steps_total : {n : ℕ} {points u : List ℤ} {live v : List ℕ} {cs : List Change} → Steps n points live u v cs
    → live_count n v + count is_withdrawn cs ≡ live_count n live + count is_taken cs
steps_total {n} {live = live} {cs = cs} s =
    let w = steps_change s in
    rw w.1 (changes_total n live cs w.0)
