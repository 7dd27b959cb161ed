-- The comparison and what `count_live` finds of the bytes, the other way round, are the two tests of the group.
use Rattle.std.specs.Prelude.{◌≡◌, not, Option, Some, None, Result, ok_or, List, ℕ, length, IfOk}
use Rattle.std.proofs.Common.{refl, ap, sym, eq-eqb, ne_eqb}
use Rattle.terms.specs.declared.refusal.Refusal.{Refusal}
use Rattle.terms.specs.declared.refusal.Refusal.TheVariants.{LiveBytes}
use Rattle.terms.specs.RefusalNumbers.{code_of}
use Rattle.terms.specs.Live.{live_count}
use Rattle.terms.specs.Refusals.{live_refusals}
use Rattle.hornherder.specs.First.{First, first_none, first_holds, first_passes}
use Rattle.hornherder.specs.Live.{CountedAs}
use Rattle.hornherder.proofs.refuse.test_live_bytes.Goals as goal

-- What is counted, or not, gives the number of the group and how many are live.
counted : (n : ℕ) (live : List ℕ) → length live ≡ n → (o : Option ℕ) → CountedAs live o → {r : Result ℕ Refusal} → r ≡ ok_or o LiveBytes
    → First (live_refusals n live) (code_of r) × IfOk r (λ slots. slots ≡ live_count n live)
counted n live size (Some many) w e =
    rw (e, ← size) (first_passes (ap not (eq-eqb _ _ refl)) (first_passes (ap not (sym w.all_bytes)) first_none), w.live_many)
counted n live size None w e =
    rw (e, ← size) (first_passes (ap not (eq-eqb _ _ refl)) (first_holds (ap not w)), tt)

pub returns-then-live-n-clause-first : goal.returns-then-live-n-clause-first
returns-then-live-n-clause-first c = first_holds (ap not (ne_eqb _ _ c.if-live-n.true))

pub returns-clause-first : goal.returns-clause-first
returns-clause-first c = (counted c.args.n c.args.live.now c.if-live-n.false _ c.count_live.ensures c.ok_or.ensures.value).0

pub returns-clause-many : goal.returns-clause-many
returns-clause-many c = (counted c.args.n c.args.live.now c.if-live-n.false _ c.count_live.ensures c.ok_or.ensures.value).1
