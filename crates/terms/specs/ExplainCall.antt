-- The explain call: what it gives for any arguments.
use Rattle.std.specs.Prelude.{List, ◌++◌, ℕ, pos}
use Rattle.terms.specs.declared.Explaining.{Explaining}
use Rattle.terms.specs.declared.Reason.{Reason}
use Rattle.terms.specs.declared.Reason.TheVariants.{InsideWithBranch, InsideByItself, OutsideWithBranch, OutsideByItself}
use Rattle.terms.specs.Lent.{Stock, Order, Faces}
use Rattle.terms.specs.Points.{point_of}
use Rattle.terms.specs.Tree.{shelf_run}
use Rattle.terms.specs.Region.{region}
use Rattle.terms.specs.Explain.{reason_of}
use Rattle.terms.specs.Refusals.{Refusal, first_of, dead_refusals, if_done}
use Rattle.terms.specs.ScreenCall.{screen_refusals}

-- Explain: the list call's without its buffer, then 17.
abbrev pub explain_refusals : Stock → Order → Faces → ℕ → List Refusal
explain_refusals s o f p = screen_refusals s o f ++ dead_refusals s.n p s.live

-- The numbers and values that a reason is answered by.
abbrev pub explaining : Reason → Explaining
explaining (InsideWithBranch s) = record { code = 0; reason = 1; face = 0; slot = s; margin = pos 0 }
explaining (InsideByItself s) = record { code = 0; reason = 2; face = 0; slot = s; margin = pos 0 }
explaining (OutsideWithBranch s f m) = record { code = 0; reason = 3; face = f; slot = s; margin = m }
explaining (OutsideByItself s f m) = record { code = 0; reason = 4; face = f; slot = s; margin = m }

module _ (s : Stock) (o : Order) (f : Faces) (p : ℕ) where
  -- The number that the explain call returns.
  unfoldable pub explain_code : ℕ
  explain_code = first_of (explain_refusals s o f p)

  -- The explain call's answer: the reason's numbers and values; of a refusal its number and zeros.
  unfoldable pub explain_answer : Explaining
  explain_answer = if_done
      explain_code
      (explaining (reason_of (region s.k f) (point_of s) (shelf_run s o) p))
      (record { code = explain_code; reason = 0; face = 0; slot = 0; margin = pos 0 })
