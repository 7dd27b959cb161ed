-- The row in front, then the last number.
use Rattle.std.proofs.Common.{refl, true, Option, Some, None, List, ℕ, ℤ, pos}
use Rattle.text.specs.Input.{newline}
use Rattle.text.specs.RowReading.{spaced, ReadsInto}
use Rattle.text.specs.LineReading.{ReadsLine, line_miss, line_then}
use Rattle.text.specs.Found.{Finds, FindsNumber}
use Rattle.text.proofs.cursor.Cursor.read_line.Goals as goal

-- Behind a row, whatever the last number is decides.
finds_line : {text : List ℕ} {at count place next : ℕ} {before after : List ℤ} → ReadsInto spaced text at count place before after true next
    → (deepest greatest next' : ℕ) (last : Option ℤ) → FindsNumber text next newline deepest greatest last next'
    → Finds (pos 0) (ReadsLine text at count deepest greatest place before after) last next'
finds_line front deepest greatest next' (Some v) number = line_then front deepest greatest refl number
finds_line front deepest greatest next' None number = line_then front deepest greatest refl number

pub returns-in_err-read_spaced-clause-found : goal.returns-in_err-read_spaced-clause-found
returns-in_err-read_spaced-clause-found c =
    rw c.from_residual.ensures (line_miss c.in_err-read_spaced.ensures.found c.args.bounds.deepest c.args.bounds.greatest refl)

pub returns-clause-found : goal.returns-clause-found
returns-clause-found c =
    let number = rw c.in_ok-read_spaced.ensures.text_unchanged at c.read_number.ensures.found in
    finds_line c.in_ok-read_spaced.ensures.found c.args.bounds.deepest c.args.bounds.greatest _ c.read_number.result number
