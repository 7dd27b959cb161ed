use Rattle.std.proofs.Common.{◌≡◌, ◌+◌, ◌<◌, length, refl, ◌∙◌, arith}
use Rattle.std.proofs.lemmas.List.{set-get_or}
use Rattle.text.specs.Ranges.{signed_back}
use Rattle.text.specs.RowReading.{filling_none, filling_more, filling_miss, filling_done}
use Rattle.text.proofs.cursor.Cursor.read_spaced.Goals as goal

pub loop-place-init : goal.loop-place-init
loop-place-init c = record { same_text = refl; filling = filling_none 0 c.args.into.now (omega arith) }

pub returns-in_err-place-clause-found : goal.returns-in_err-place-clause-found
returns-in_err-place-clause-found c =
    let number = rw c.loop-place.invariant.same_text at c.in_err-place.ensures.found in
    rw (c.from_residual.ensures, set-get_or) (filling_miss c.loop-place.invariant.filling (omega arith) (omega arith) number refl)

pub loop-place-preserved : goal.loop-place-preserved
loop-place-preserved c =
    -- The number that was read, and that it has its place.
    let number = rw c.loop-place.invariant.same_text at c.in_ok-place.ensures.found in
    let range = number.allowed refl in
    let room : 0 + c.loop-place.place-index < length c.args.into.now = omega arith in
    let here : 0 + c.loop-place.place-index ≡ c.loop-place.place-index = omega arith in
    record {
      same_text = c.in_ok-place.ensures.text_unchanged ∙ c.loop-place.invariant.same_text;
      filling = rw (signed_back c.in_ok-place.field-0 range) (rw here at (filling_more c.loop-place.invariant.filling room range (number.found refl)));
    }

pub returns-clause-found : goal.returns-clause-found
returns-clause-found c =
    let all : c.loop-place.place-index ≡ length c.args.into.now = omega arith in
    rw all at (filling_done c.loop-place.invariant.filling (omega arith))
