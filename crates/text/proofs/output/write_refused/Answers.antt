-- One line, from the first place on.
use Rattle.std.proofs.Common.{arith}
use Rattle.text.specs.Answer.{refused_text}
use Rattle.text.specs.Printing.{printed_of}
use Rattle.text.proofs.output.write_refused.Goals as goal

pub returns : goal.returns
unfolding refused_text
returns c =
    let line = c.write_line.ensures in
    printed_of line.put (omega (arith, line.short))
