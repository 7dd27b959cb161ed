-- A refusal leaves points and live bytes; where all was passed, the point comes back in its places and the lowest dead number's byte is set.
use Rattle.std.specs.Prelude.{◌<◌}
use Rattle.std.proofs.Common.{refl, arith, length-take, length-drop}
use Rattle.terms.specs.RefusalNumbers.{number_is, handed_on}
use Rattle.hornherder.specs.Live.{passed_lent, points_few, point_room}
use Rattle.hornherder.specs.TakeOutcome.{take_tested, take_refused, take_done}
use Rattle.hornherder.proofs.take.take.Goals as goal

pub returns-in_err-number : goal.returns-in_err-number
returns-in_err-number c = rw (handed_on _ c.from_residual.ensures) (take_refused _ _ _ _ _ c.in_err-number.ensures.first (number_is _))

pub overflow_mul-start : goal.overflow_mul-start
overflow_mul-start c =
    let a = c.args in
    let t = take_tested a.k a.n a.points.now a.live.now a.point.now c.in_ok-number.ensures.first refl in
    let known : c.in_ok-number.number < a.n = rw c.in_ok-number.ensures.lowest t.dead in
    let lent = passed_lent t in
    omega (arith, point_room lent known, points_few lent)

pub overflow_add-start : goal.overflow_add-start
overflow_add-start c =
    let a = c.args in
    let t = take_tested a.k a.n a.points.now a.live.now a.point.now c.in_ok-number.ensures.first refl in
    let known : c.in_ok-number.number < a.n = rw c.in_ok-number.ensures.lowest t.dead in
    let lent = passed_lent t in
    omega (arith, point_room lent known, points_few lent)

pub offset_bounds-points-start : goal.offset_bounds-points-start
offset_bounds-points-start c =
    let a = c.args in
    let t = take_tested a.k a.n a.points.now a.live.now a.point.now c.in_ok-number.ensures.first refl in
    let known : c.in_ok-number.number < a.n = rw c.in_ok-number.ensures.lowest t.dead in
    let lent = passed_lent t in
    omega (arith, point_room lent known, points_few lent)

pub slice_bounds-write_coordinates-end : goal.slice_bounds-write_coordinates-end
slice_bounds-write_coordinates-end c =
    let a = c.args in
    let t = take_tested a.k a.n a.points.now a.live.now a.point.now c.in_ok-number.ensures.first refl in
    let known : c.in_ok-number.number < a.n = rw c.in_ok-number.ensures.lowest t.dead in
    let lent = passed_lent t in
    omega (arith, point_room lent known)

pub write_coordinates-requires : goal.write_coordinates-requires
write_coordinates-requires c =
    let a = c.args in
    let t = take_tested a.k a.n a.points.now a.live.now a.point.now c.in_ok-number.ensures.first refl in
    let known : c.in_ok-number.number < a.n = rw c.in_ok-number.ensures.lowest t.dead in
    let lent = passed_lent t in
    simp (length-take, length-drop) (omega (arith, point_room lent known, t.point_size))

pub bounds-live-number : goal.bounds-live-number
bounds-live-number c =
    let a = c.args in
    let t = take_tested a.k a.n a.points.now a.live.now a.point.now c.in_ok-number.ensures.first refl in
    let known : c.in_ok-number.number < a.n = rw c.in_ok-number.ensures.lowest t.dead in
    omega (arith, known, t.live_tested.bytes)

pub overflow_cast-result : goal.overflow_cast-result
overflow_cast-result c =
    let a = c.args in
    let t = take_tested a.k a.n a.points.now a.live.now a.point.now c.in_ok-number.ensures.first refl in
    let known : c.in_ok-number.number < a.n = rw c.in_ok-number.ensures.lowest t.dead in
    omega (arith, known, t.shaped.many)

pub returns : goal.returns
returns c = take_done _ _ _ _ _ c.in_ok-number.ensures.first refl c.in_ok-number.ensures.lowest c.write_coordinates.ensures
