-- What the natural number behind the sign was found to be decides.
use Rattle.std.proofs.Common.{◌≤◌, refl, arith}
use lib.IntN.{pos, neg_ℤ}
use mir.Syntax.{w64}
use mir.Facts.{to_z_pos, to_z-of_z}
use Rattle.whole.proofs.Sums.{zero_add}
use Rattle.whole.proofs.Fits.{fits_dif}
use Rattle.text.specs.NumberReading.{negative_miss, negative_hit}
use Rattle.text.proofs.cursor.Cursor.read_negative.Goals as goal

pub returns-in_err-n-clause-found : goal.returns-in_err-n-clause-found
returns-in_err-n-clause-found c greatest =
    rw c.from_residual.ensures (negative_miss c.requires c.in_err-n.ensures.found greatest (λ m e l. omega arith) refl)

pub returns-clause-found : goal.returns-clause-found
returns-clause-found c greatest =
    -- The number behind the sign.
    let v = c.in_ok-n.n in
    let found = c.in_ok-n.ensures.found in
    let size = found.allowed refl in
    let most : v ≤ 9999999999 = omega (arith, size.most, c.requires.most) in
    rw (to_z_pos w64 {n = v} (omega arith), to_z-of_z (fits_dif (pos 0) (pos v) 0 9999999999 (omega arith) most tt), zero_add (neg_ℤ (pos v)))
    (negative_hit c.requires found greatest size.enough size.most refl)
