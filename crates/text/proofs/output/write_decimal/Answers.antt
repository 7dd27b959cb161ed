-- The library's digits, put as a word.
use Rattle.std.proofs.Common.{sym, ◌∙◌, arith}
use Rattle.text.specs.Printing.{same_decimal}
use Rattle.text.proofs.output.write_decimal.Goals as goal

pub write_word-requires : goal.write_word-requires
write_word-requires c =
    let digits = c.as_bytes.ensures.value ∙ c.format.ensures.text ∙ sym (same_decimal c.args.n (omega arith)) in
    rw digits c.requires

pub returns : goal.returns
returns c =
    let digits = c.as_bytes.ensures.value ∙ c.format.ensures.text ∙ sym (same_decimal c.args.n (omega arith)) in
    rw digits at c.write_word.ensures
