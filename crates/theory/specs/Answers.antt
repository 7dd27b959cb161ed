-- A call's answer r to a test t, and what it says of the test where the code goes on by its negation.
use Rattle.std.specs.Prelude.{◌≡◌, Bool, true, false, not}
use Rattle.std.proofs.Common.{sym, ◌∙◌}
use Rattle.theory.specs.Flags.{not_true, not_false}

pub refused : {r t : Bool} → r ≡ t → not r ≡ true → t ≡ false
refused {r} e n = sym e ∙ not_true r n

pub accepted : {r t : Bool} → r ≡ t → not r ≡ false → t ≡ true
accepted {r} e n = sym e ∙ not_false r n
