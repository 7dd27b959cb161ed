-- What the explain call gives, put together: where its first refusal is not 0, the refusal; where it is 0, the number's reason, whose slot and face are small.
use Rattle.std.specs.Prelude.{◌≡◌, ◌≢◌, ℕ, pos}
use Rattle.std.proofs.Math.Path.{refl}
use Rattle.std.proofs.Common.{sym, ◌∙◌, arith, length-take-le}
use Rattle.terms.specs.declared.Explaining.{Explaining}
use Rattle.terms.specs.declared.Reason.{Reason}
use Rattle.terms.specs.Lent.{Stock, Order, Faces}
use Rattle.terms.specs.Points.{point_of, belongs_to, slots_of}
use Rattle.terms.specs.Tree.{shelf_run}
use Rattle.terms.specs.Region.{region}
use Rattle.terms.specs.Explain.{reason_of}
use Rattle.terms.specs.ExplainCall.{explain_refusals, explaining, explain_code, explain_answer}
use Rattle.theory.specs.FirstRefusal.{if_refused}
use Rattle.theory.specs.StockNumbers.{stock_few}
use Rattle.theory.specs.Reasons.{Named}
use Rattle.theory.proofs.Reasons.{named_more, tree_run_lem, because_named}
use Rattle.theory.specs.ExplainCall.{ExplainPassed, explain_passed}
use Rattle.theory.proofs.ExplainCall.{picture_reason}
use Rattle.hornherder.specs.First.{First}

module _ (s : Stock) (o : Order) (f : Faces) (p : ℕ) {c : ℕ} (first : First (explain_refusals s o f p) c) where
  explain_coded : c ≡ explain_code s o f p
  unfolding explain_code
  explain_coded = first.is

  -- What 1, 2, 3, 15, 4 to 8, 11, 9 and 17 have tested.
  pub explain_tested : c ≡ 0 → ExplainPassed s o f p
  explain_tested z = explain_passed s o f p (sym explain_coded ∙ z)

  pub explain_refused : c ≢ 0 → record { code = c; reason = 0; face = 0; slot = 0; margin = pos 0 } ≡ explain_answer s o f p
  unfolding explain_answer
  explain_refused m = rw (← explain_coded) (sym (if_refused c _ _ m))

  module _ (z : c ≡ 0) where
    -- The reason's slot and face fit the fields that answer them.
    pub reason_small : Named 65536 256 (reason_of (region s.k f) (point_of s) (shelf_run s o) p)
    reason_small =
        let w = explain_tested z in
        let t = w.screened in
        let r = picture_reason s o f p w in
        let slots = length-take-le (slots_of s) o.slots t.room in
        named_more (omega (arith, slots, stock_few s, t.tested.many)) (omega (arith, t.faced.many)) (reason_of (region s.k f) (point_of s) (shelf_run s o) p)
        (because_named (region s.k f) (point_of s) (shelf_run s o)
        (tree_run_lem (region s.k f) (point_of s) (belongs_to s) s.n (shelf_run s o) t.shelf) r.stands (reason_of (region s.k f) (point_of s) (shelf_run s o) p) r.because)

    pub explain_done : {why : Reason} {answer : Explaining} → why ≡ reason_of (region s.k f) (point_of s) (shelf_run s o) p → answer ≡ explaining why → answer ≡ explain_answer s o f p
    unfolding explain_answer
    explain_done e a = a ∙ rw (← explain_coded, z, e) refl
