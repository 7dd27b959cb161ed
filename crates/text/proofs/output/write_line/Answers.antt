-- The word, the numbers, the newline: put one behind the other.
use Rattle.std.proofs.Common.{arith}
use Rattle.text.specs.Printing.{put_line, items_part}
use Rattle.text.proofs.output.write_line.Goals as goal

pub returns : goal.returns
returns c =
    let front = c.write_word-front in
    let items = items_part front.new.out front.result (omega (arith, front.ensures.place, front.ensures.size)) c.write_items.ensures in
    put_line front.ensures items (omega (arith, front.ensures.place, items.short))
