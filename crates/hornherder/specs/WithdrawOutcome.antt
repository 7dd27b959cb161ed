-- What the withdraw call gives, put together: where its first refusal is not 0, the refusal; where it is 0, the number's byte cleared.
use Rattle.std.specs.Prelude.{◌≡◌, ◌≢◌, List, ℕ, set}
use Rattle.std.proofs.Common.{sym, ◌∙◌}
use Rattle.terms.specs.WithdrawCall.{withdraw_refusals, withdraw_answer, WithdrawnAs}
use Rattle.theory.specs.WithdrawCall.{WithdrawPassed, withdraw_passed, withdraw_refused_live, withdraw_done_live}
use Rattle.hornherder.specs.First.{First}

module _ (n p : ℕ) (live : List ℕ) {c : ℕ} (first : First (withdraw_refusals n p live) c) where
  withdraw_coded : c ≡ withdraw_answer n p live
  unfolding withdraw_answer
  withdraw_coded = first.is

  -- What 2, 15 and 17 have tested.
  pub withdraw_tested : c ≡ 0 → WithdrawPassed n p live
  withdraw_tested z = withdraw_passed n p live (sym withdraw_coded ∙ z)

  pub withdraw_refused : c ≢ 0 → WithdrawnAs n p live c live
  withdraw_refused m = record { answered = withdraw_coded; marked = sym (withdraw_refused_live n p live (λ z. m (withdraw_coded ∙ z))) }

  pub withdraw_done : c ≡ 0 → WithdrawnAs n p live 0 (set live p 0)
  withdraw_done z = record { answered = sym z ∙ withdraw_coded; marked = sym (withdraw_done_live n p live (sym withdraw_coded ∙ z)) }
