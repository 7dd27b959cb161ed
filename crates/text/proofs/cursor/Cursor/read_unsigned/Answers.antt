-- What the natural number at the place was found to be decides.
use Rattle.std.proofs.Common.{refl, arith}
use mir.Syntax.{w64}
use mir.Facts.{to_z_pos}
use Rattle.text.specs.NumberReading.{unsigned_miss, unsigned_hit}
use Rattle.text.proofs.cursor.Cursor.read_unsigned.Goals as goal

pub returns-in_err-n-clause-found : goal.returns-in_err-n-clause-found
returns-in_err-n-clause-found c deepest =
    rw c.from_residual.ensures (unsigned_miss c.requires c.in_err-n.ensures.found deepest (λ m l. omega arith) refl)

pub returns-clause-found : goal.returns-clause-found
returns-clause-found c deepest =
    -- The number that was read.
    let n = c.in_ok-n.n in
    let found = c.in_ok-n.ensures.found in
    let size = found.allowed refl in
    rw (to_z_pos w64 {n = n} (omega (arith, c.requires.most)))
    (unsigned_hit c.requires found deepest size.most refl)
