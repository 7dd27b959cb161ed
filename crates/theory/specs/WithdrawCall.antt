-- The withdraw call: the first refusal is its answer, what it has tested where that is 0, and what it leaves.
use Rattle.std.specs.Prelude.{◌≡◌, ◌≢◌, true, List, ◌++◌, ℕ, zero, suc, ◌≤◌, length}
use Rattle.std.proofs.Math.Path.{refl}
use Rattle.std.proofs.Common.{arith, eq-eqb}
use Rattle.terms.specs.Live.{is_live, withdrawn_live}
use Rattle.terms.specs.Refusals.{size_refusals, live_refusals, dead_refusals, if_done}
use Rattle.terms.specs.Changes.{Change, withdrawn, refused, may_change, changed_live}
use Rattle.terms.specs.WithdrawCall.{withdraw_refusals, withdraw_answer, withdraw_live}
use Rattle.theory.specs.Flags.{true_and}
use Rattle.theory.specs.FirstRefusal.{FirstHeld, no_zero, first_held, passed_parts, if_refused}
use Rattle.theory.specs.RefusalsPassed.{size_passed, LiveTested, live_passed, dead_passed}

-- What the withdraw call has tested: n, the live bytes, and that the number is live.
pub record WithdrawPassed (n p : ℕ) (live : List ℕ) : Type 0 where
  pub many : n ≤ 65535
  pub live_tested : LiveTested n live
  pub alive : is_live n live p ≡ true

module _ (n p : ℕ) (live : List ℕ) where
  -- "Withdraw: 2, 15, 17": the first in this order, and 0 where none holds.
  pub withdraw_first : FirstHeld (withdraw_refusals n p live) (withdraw_answer n p live)
  unfolding no_zero withdraw_answer
  withdraw_first = first_held (withdraw_refusals n p live) refl

  pub withdraw_passed : withdraw_answer n p live ≡ 0 → WithdrawPassed n p live
  withdraw_passed e =
      let a = passed_parts (size_refusals n) (live_refusals n live ++ dead_refusals n p live) (withdraw_first.done e) in
      let b = passed_parts (live_refusals n live) (dead_refusals n p live) a.1 in
      record { many = size_passed n a.0; live_tested = live_passed n live b.0; alive = dead_passed n p live b.1 }

  -- Refused, the live bytes are as they were; done, the number's is cleared.
  pub withdraw_refused_live : withdraw_answer n p live ≢ 0 → withdraw_live n p live ≡ live
  unfolding withdraw_live
  withdraw_refused_live m = if_refused (withdraw_answer n p live) _ _ m

  pub withdraw_done_live : withdraw_answer n p live ≡ 0 → withdraw_live n p live ≡ withdrawn_live p live
  unfolding withdraw_live
  withdraw_done_live z = rw z

  -- What the call came to is a change that the live bytes allow, and it leaves what that change leaves.
  abbrev pub withdraw_change : Change
  withdraw_change = if_done (withdraw_answer n p live) (withdrawn p) refused

  pub withdraw_changes : (may_change n live withdraw_change ≡ true) × (withdraw_live n p live ≡ changed_live n live withdraw_change)
  withdraw_changes = go (withdraw_answer n p live) refl
    where
      go : (c : ℕ) → withdraw_answer n p live ≡ c → (may_change n live withdraw_change ≡ true) × (withdraw_live n p live ≡ changed_live n live withdraw_change)
      go zero z =
          let w = withdraw_passed z in
          rw z (true_and (eq-eqb (length live) n w.live_tested.bytes) w.alive, withdraw_done_live z)
      go (suc c) z = rw z (refl, withdraw_refused_live (λ e. omega arith))
