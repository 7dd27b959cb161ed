-- A run of digits was found; each test that fails says why no number stands there, and the last answer is the number that the run says.
use Rattle.std.proofs.Common.{◌≡◌, ◌-◌, get_or, sym, ◌∙◌, arith}
use Rattle.text.specs.DigitRuns.{slice_front}
use Rattle.text.specs.Found.{stop_low}
use Rattle.text.specs.NaturalReading.{miss_end, miss_stop, miss_none, miss_long, miss_zero, hit}
use Rattle.text.proofs.cursor.Cursor.read_natural.Goals as goal
use Rattle.text.proofs.cursor.Cursor.read_natural.Goals.{else-several-via-then-several+else-first-eq48, else-several-via-else-several}

pub returns-then-end-self-clause-found : goal.returns-then-end-self-clause-found
returns-then-end-self-clause-found c = miss_end c.digits_end-end.ensures (stop_low c.args.stop) c.if-end-self.true

pub returns-then-self-end-clause-found : goal.returns-then-self-end-clause-found
returns-then-self-end-clause-found c =
    miss_stop c.digits_end-end.ensures (stop_low c.args.stop) (λ e. c.if-self-end.true (e ∙ sym c.byte.ensures))

pub returns-then-count-eq0-clause-found : goal.returns-then-count-eq0-clause-found
returns-then-count-eq0-clause-found c = miss_none c.digits_end-end.ensures (stop_low c.args.stop) (omega arith)

pub returns-then-count-gt10-clause-found : goal.returns-then-count-gt10-clause-found
returns-then-count-gt10-clause-found c = miss_long c.digits_end-end.ensures (stop_low c.args.stop) (omega arith)

pub returns-then-first-eq48-clause-found : goal.returns-then-first-eq48-clause-found
returns-then-first-eq48-clause-found c = miss_zero c.digits_end-end.ensures (stop_low c.args.stop) c.if-first-eq48.true (omega arith)

pub digits_value-value-requires-clause-digits : goal.digits_value-value-requires-clause-digits
digits_value-value-requires-clause-digits c =
    let run = c.digits_end-end.ensures in
    rw (slice_front _ _ _ run.start) run.digits

pub returns-clause-found : goal.returns-clause-found
returns-clause-found c =
    let run = c.digits_end-end.ensures in
    let says = rw (slice_front _ _ _ run.start) at c.digits_value-value.ensures in
    let front : get_or c.args.self.now.text.now c.args.self.now.at 0 ≡ 48 → c.digits_end-end.result - c.args.self.now.at ≡ 1 =
    elim c.else-several.branch [
      | else-several-via-then-several+else-first-eq48 w ↦ λ z. absurd (w.if-first-eq48.false z)
      | else-several-via-else-several w ↦ λ z. omega arith
    ] in
    hit run (stop_low c.args.stop) c.digits_value-value.result says (omega arith) (c.if-self-end.false ∙ c.byte.ensures) (omega arith) (omega arith) front
