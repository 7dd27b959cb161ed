-- The invariant: the digits still to be read, behind what was read, say the number that all of them say. So what was read is at most that number.
use Rattle.std.proofs.Common.{◌≡◌, length}
use Rattle.std.proofs.Math.Seq.{slice}
use Rattle.text.specs.DecimalLaws.{Digits, value_from}
use Rattle.text.proofs.number.digits_value.Given as goal

abbrev pub invariant-loop-digit : goal.invariant-loop-digit
invariant-loop-digit l =
    let rest = slice l.digit-index (length l.digits) l.digits in Digits rest × (value_from l.value rest ≡ value_from 0 l.digits)
