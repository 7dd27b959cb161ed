use Rattle.std.proofs.Common.{◌≡◌, refl, length, take_all, arith}
use Rattle.std.proofs.Math.Seq.{slice_empty}
use Rattle.text.specs.DecimalLaws.{value_from}
use Rattle.text.specs.DigitRuns.{value_ten, turn}
use Rattle.text.proofs.number.digits_value.Goals as goal

pub loop-digit-init : goal.loop-digit-init
loop-digit-init c =
    let digits = c.args.digits.now in
    rw (take_all (length digits) digits (omega arith)) (c.requires.digits, refl)

pub overflow_mul-value : goal.overflow_mul-value
overflow_mul-value c =
    let digits = c.args.digits.now in
    let loop = c.loop-digit in
    -- The digit at the index, read.
    let next =
    turn digits loop.digit-index (length digits) loop.value (value_from 0 digits)
    (omega arith) (omega arith) loop.invariant.0 loop.invariant.1 in
    -- What all the digits say.
    let small = value_ten c.requires.digits c.requires.length_bound in
    omega (arith, next.most, small)

pub overflow_sub-digit : goal.overflow_sub-digit
overflow_sub-digit c =
    let digits = c.args.digits.now in
    let loop = c.loop-digit in
    -- The digit at the index, read.
    let next =
    turn digits loop.digit-index (length digits) loop.value (value_from 0 digits)
    (omega arith) (omega arith) loop.invariant.0 loop.invariant.1 in
    next.low

pub overflow_add-value : goal.overflow_add-value
overflow_add-value c =
    let digits = c.args.digits.now in
    let loop = c.loop-digit in
    -- The digit at the index, read.
    let next =
    turn digits loop.digit-index (length digits) loop.value (value_from 0 digits)
    (omega arith) (omega arith) loop.invariant.0 loop.invariant.1 in
    -- What all the digits say.
    let small = value_ten c.requires.digits c.requires.length_bound in
    omega (arith, next.most, small)

pub loop-digit-preserved : goal.loop-digit-preserved
loop-digit-preserved c =
    let digits = c.args.digits.now in
    let loop = c.loop-digit in
    -- The digit at the index, read.
    let next =
    turn digits loop.digit-index (length digits) loop.value (value_from 0 digits)
    (omega arith) (omega arith) loop.invariant.0 loop.invariant.1 in
    (next.digits, rw c.from.ensures next.says)

pub returns : goal.returns
unfolding value_from
returns c =
    let loop = c.loop-digit in
    let digits = c.args.digits.now in
    let e : loop.digit-index ≡ length digits = omega arith in
    rw (e, slice_empty (length digits) digits) at loop.invariant.1
