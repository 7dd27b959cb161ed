-- The line of k - 1 numbers and a last one is the line of k numbers once the last one is stored.
use Rattle.std.proofs.Common.{◌≡◌, ℕ, suc, ◌+◌, ◌-◌, ◌++◌, length, drop, refl, length-take-le, length-drop, length-append, arith}
use Rattle.text.specs.Ranges.{signed_back}
use Rattle.text.specs.LineReading.{line_part, point_miss, point_hit}
use Rattle.text.proofs.cursor.Cursor.read_point.Goals as goal

pub returns-in_err-coordinate-clause-found : goal.returns-in_err-coordinate-clause-found
returns-in_err-coordinate-clause-found c =
    let point = c.args.point.now in
    let j : ℕ = length point - 1 in
    let all : suc j ≡ length point = omega arith in
    let line =
    line_part j 0 point (drop j point) (omega arith) (length-take-le j point (omega arith)) c.read_line.auto.into
    c.in_err-coordinate.ensures.found in
    rw c.from_residual.ensures (rw all at (point_miss line refl))

pub returns-clause-found : goal.returns-clause-found
returns-clause-found c =
    let point = c.args.point.now in
    let j : ℕ = length point - 1 in
    let all : suc j ≡ length point = omega arith in
    let line =
    line_part j 0 point (drop j point) (omega arith) (length-take-le j point (omega arith)) c.read_line.auto.into
    c.in_ok-coordinate.ensures.found in
    let range = (line.reads.allowed refl).range in
    let size : length (c.read_line.new.into ++ drop j point) ≡ length point =
    rw length-append (omega (arith, c.read_line.auto.into, length-take-le j point (omega arith), length-drop j point)) in
    let here : 0 + j ≡ j = omega arith in
    rw (signed_back c.in_ok-coordinate.coordinate range) (rw (all, here) at (point_hit line refl (omega arith)))
