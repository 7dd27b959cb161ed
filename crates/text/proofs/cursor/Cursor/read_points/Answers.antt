use Rattle.std.proofs.Common.{◌≡◌, ◌+◌, ◌*◌, ◌≤◌, length, refl, ◌∙◌, arith}
use Rattle.text.specs.Parts.{part_size, put_size}
use Rattle.text.specs.RowReading.{into_part}
use Rattle.text.specs.BlockReading.{points_none, points_next, points_miss, points_done, places_fit}
use Rattle.text.proofs.cursor.Cursor.read_points.Goals as goal

pub loop-i-init : goal.loop-i-init
loop-i-init c =
    let start : c.args.k * 0 ≡ 0 = omega arith in
    record { same_text = refl; lines = rw start (points_none c.args.k c.args.points.now (omega arith)) }

pub returns-in_err-read_point-clause-found : goal.returns-in_err-read_point-clause-found
returns-in_err-read_point-clause-found c =
    let k = c.args.k in
    let place = k * c.loop-i.i in
    let room : place + k ≤ length c.loop-i.points = omega (arith, places_fit k c.loop-i-test.true) in
    let read = rw c.loop-i.invariant.same_text at c.in_err-read_point.ensures.found in
    let point =
    into_part k place c.loop-i.points _ (omega arith) (part_size place k c.loop-i.points room) c.read_point.auto.point read in
    rw c.from_residual.ensures (points_miss c.loop-i.invariant.lines point refl c.loop-i-test.true)

pub loop-i-preserved : goal.loop-i-preserved
loop-i-preserved c =
    let k = c.args.k in
    let place = k * c.loop-i.i in
    let room : place + k ≤ length c.loop-i.points = omega (arith, places_fit k c.loop-i-test.true) in
    let read = rw c.loop-i.invariant.same_text at c.in_ok-read_point.ensures.found in
    let point =
    into_part k place c.loop-i.points _ (omega arith) (part_size place k c.loop-i.points room) c.read_point.auto.point read in
    let next : place + k ≡ k * (c.loop-i.i + 1) = omega arith in
    let after = put_size place _ c.loop-i.points _ (omega arith) c.read_point.auto.point in
    record {
      same_text = c.in_ok-read_point.ensures.text_unchanged ∙ c.loop-i.invariant.same_text;
      lines = rw (← next) (points_next c.loop-i.invariant.lines point refl after);
    }

pub returns-clause-found : goal.returns-clause-found
returns-clause-found c =
    let all : c.loop-i.i ≡ c.args.n = omega arith in
    points_done (rw all at c.loop-i.invariant.lines)
