-- The withdraw call: what it gives for any arguments, and the live bytes afterwards.
use Rattle.std.specs.Prelude.{◌≡◌, List, ◌++◌, ℕ}
use Rattle.terms.specs.Live.{withdrawn_live}
use Rattle.terms.specs.Refusals.{Refusal, first_of, size_refusals, live_refusals, dead_refusals, if_done}

-- Withdraw: 2, 15, 17.
abbrev pub withdraw_refusals : ℕ → ℕ → List ℕ → List Refusal
withdraw_refusals n p live = size_refusals n ++ live_refusals n live ++ dead_refusals n p live

module _ (n p : ℕ) (live : List ℕ) where
  -- The withdraw call's answer.
  unfoldable pub withdraw_answer : ℕ
  withdraw_answer = first_of (withdraw_refusals n p live)

  -- The live bytes after the call: the number's is cleared; with a refusal, as they were.
  unfoldable pub withdraw_live : List ℕ
  withdraw_live = if_done withdraw_answer (withdrawn_live p live) live

  -- What the withdraw call does: its answer, and the live bytes afterwards.
  pub record WithdrawnAs (answer : ℕ) (live_after : List ℕ) : Type 0 where
    pub answered : answer ≡ withdraw_answer
    pub marked : live_after ≡ withdraw_live
