-- Three lines, one behind the other, from the first place on.
use Rattle.std.proofs.Common.{◌+◌, length, take_all, arith}
use Rattle.text.specs.Answer.{answer_text}
use Rattle.text.specs.Printing.{put_then, line_part, printed_of}
use Rattle.text.proofs.output.write_answer.Goals as goal

pub returns : goal.returns
unfolding answer_text
returns c =
    let order = c.args.order.now in
    let list = c.args.list.now in
    let p = c.write_line-first in
    let q = line_part p.new.out p.result (omega (arith, p.ensures.short, p.ensures.put.size)) c.write_line.ensures in
    let r = line_part _ (p.result + c.write_line.result) (omega (arith, q.short, q.put.size)) c.write_line-2.ensures in
    let first = rw (take_all (length order) order (omega arith)) at p.ensures.put in
    let last = rw (take_all (length list) list (omega arith)) at r.put in
    printed_of (put_then first (put_then q.put last)) (omega (arith, p.ensures.short, q.short, r.short))
