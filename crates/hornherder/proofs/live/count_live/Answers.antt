-- Nothing is counted at first, each turn counts one byte more, and the count is given where each byte is 0 or 1.
use Rattle.std.proofs.Common.{◌≡◌, refl, arith, rules, get_or}
use Rattle.terms.specs.Tests.{bit, count, every}
use Rattle.terms.specs.Live.{is_set}
use Rattle.theory.specs.Counting.{bit_le}
use Rattle.hornherder.specs.Ranges.{through_more}
use Rattle.hornherder.specs.Live.{counted_more, counted_all, counted_as}
use Rattle.hornherder.proofs.live.count_live.Goals as goal

pub loop-byte-init : goal.loop-byte-init
unfolding every count
loop-byte-init c = (omega arith, record { passed = record { so_far = refl }; set_many = refl })

pub loop-byte-preserved : goal.loop-byte-preserved
loop-byte-preserved c =
    let l = c.loop-byte in
    let b = get_or c.args.live.now l.byte-index 0 in
    let one : c.from-count.result ≡ bit (is_set b) = search rules in
    let w = l.invariant.1 in
    (omega (arith, l.invariant.0, one, bit_le (is_set b)), counted_more w c.loop-byte-test.true (through_more 0 w.passed c.loop-byte-test.true) (rw one refl))

pub returns : goal.returns
returns c = counted_as c.loop-byte.all c.then_some.ensures (counted_all c.loop-byte.invariant.1 (omega arith) refl)
