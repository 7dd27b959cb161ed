use Rattle.std.proofs.Common.{◌+◌, ◌^◌, ◌≤◌, ◌<◌, length, get_or, length-set, length-take, length-drop, arith, rules}
use Rattle.text.specs.Printing.{ten_digits, put_part, items_none, items_next}
use Rattle.text.proofs.output.write_items.Goals as goal

pub loop-number-init : goal.loop-number-init
loop-number-init c = items_none c.args.out.now c.args.numbers.now 0

-- The next number: room for a space and ten digits, and that it is of 32 bits.
pub write_decimal-next-requires : goal.write_decimal-next-requires
write_decimal-next-requires c =
    let loop = c.loop-number in
    let room : loop.next + 11 ≤ length loop.out = omega (arith, loop.invariant.short) in
    let few : get_or c.args.numbers.now loop.number-index 0 < 2 ^ 32 = search rules in
    simp (length-take, length-drop, length-set) (omega (arith, room, ten_digits (get_or c.args.numbers.now loop.number-index 0) few))

pub loop-number-preserved : goal.loop-number-preserved
loop-number-preserved c =
    let loop = c.loop-number in
    let room : loop.next + 11 ≤ length loop.out = omega (arith, loop.invariant.short) in
    let few : get_or c.args.numbers.now loop.number-index 0 < 2 ^ 32 = search rules in
    let digits = put_part _ (loop.next + 1) (rw length-set (omega arith)) c.write_decimal-next.ensures in
    items_next loop.invariant (omega arith) few (omega arith) digits
