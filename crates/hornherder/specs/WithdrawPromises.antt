-- What is promised of withdrawing, read off the withdraw call's contract. Each follows from `theory` in a line or two.
use Rattle.std.specs.Prelude.{◌≡◌, ◌≢◌, true, false, List, ℕ, length, get_or}
use Rattle.std.proofs.Common.{sym, ◌∙◌, arith, length-set, get_or-set_same, get_or-set_other}
use Rattle.terms.specs.Live.{is_live, withdrawn_live}
use Rattle.terms.specs.WithdrawCall.{withdraw_refusals, withdraw_answer, WithdrawnAs}
use Rattle.theory.specs.FirstRefusal.{FirstHeld}
use Rattle.theory.specs.LiveNumbers.{live_under, clear_live}
use Rattle.theory.specs.WithdrawCall.{WithdrawPassed, withdraw_first, withdraw_passed, withdraw_refused_live, withdraw_done_live}

module _ (n p : ℕ) (live : List ℕ) {a : ℕ} {y : List ℕ} (e : WithdrawnAs n p live a y) where
  -- Two outcomes that satisfy the contract are equal.
  pub withdraw_once : {b : ℕ} {v : List ℕ} → WithdrawnAs n p live b v → (a ≡ b) × (y ≡ v)
  withdraw_once f = (e.answered ∙ sym f.answered, e.marked ∙ sym f.marked)

  -- "Withdraw: 2, 15, 17": the answer is the first that holds in this order, and 0 where none does.
  pub withdraw_answers_the_first : FirstHeld (withdraw_refusals n p live) a
  withdraw_answers_the_first = rw e.answered (withdraw_first n p live)

  -- A refusal changes no live byte.
  pub withdraw_refused_writes_nothing : a ≢ 0 → y ≡ live
  withdraw_refused_writes_nothing m = e.marked ∙ withdraw_refused_live n p live (λ z. m (e.answered ∙ z))

  module _ (done : a ≡ 0) where
    passed : withdraw_answer n p live ≡ 0
    passed = sym e.answered ∙ done

    tested : WithdrawPassed n p live
    tested = withdraw_passed n p live passed

    live_are : y ≡ withdrawn_live p live
    live_are = e.marked ∙ withdraw_done_live n p live passed

    -- The number was live, and is dead afterwards.
    pub withdraw_takes_a_live_number : (is_live n live p ≡ true) × (is_live n y p ≡ false)
    withdraw_takes_a_live_number = (tested.alive, rw live_are (clear_live n live tested.live_tested.bytes p (live_under n live p tested.alive)))

    -- "Withdrawing clears a byte": every other byte is as it was, and there are as many.
    pub withdraw_clears_its_byte : get_or y p 0 ≡ 0
    withdraw_clears_its_byte =
        rw live_are (get_or-set_same live p 0 0 (omega (arith, tested.live_tested.bytes, live_under n live p tested.alive)))

    pub withdraw_leaves_other_bytes : (q : ℕ) → q ≢ p → get_or y q 0 ≡ get_or live q 0
    withdraw_leaves_other_bytes q other = rw live_are (get_or-set_other live p q 0 0 other)

    pub withdraw_keeps_places : length y ≡ length live
    withdraw_keeps_places = rw live_are (length-set live p 0)
