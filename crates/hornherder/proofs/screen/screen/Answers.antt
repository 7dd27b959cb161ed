-- A refusal is the answer; where all was passed, what is found in the first v slots is, and the visits are no more than v.
use Rattle.std.proofs.Common.{refl, sym, ap, ◌∙◌, arith, length}
use Rattle.terms.specs.Lent.{order_of}
use Rattle.terms.specs.LentValues.{stock_of, lent_faces}
use Rattle.terms.specs.RefusalNumbers.{number_is, handed_on}
use Rattle.hornherder.specs.TestedRun.{run_shelved, run_few, faces_known}
use Rattle.hornherder.specs.ScreenOutcome.{screen_visits_most, screen_tested, screen_refused, screen_done}
use Rattle.hornherder.proofs.screen.screen.Goals as goal

pub returns-in_err-run : goal.returns-in_err-run
returns-in_err-run c = rw (handed_on _ c.from_residual.ensures) (screen_refused _ _ _ c.in_err-run.ensures.first (number_is _))

pub shelf_of-shelf-requires : goal.shelf_of-shelf-requires
shelf_of-shelf-requires c = let p = screen_tested (stock_of c.args.stock.now) (order_of c.args.order.now) (lent_faces c.args.faces.now) c.in_ok-run.ensures.first refl in run_shelved (stock_of c.args.stock.now) (order_of c.args.order.now) c.in_ok-run.ensures.slots p.tested p.shelf

pub tested_faces-requires : goal.tested_faces-requires
tested_faces-requires c = let p = screen_tested (stock_of c.args.stock.now) (order_of c.args.order.now) (lent_faces c.args.faces.now) c.in_ok-run.ensures.first refl in faces_known c.args.stock.now.k (lent_faces c.args.faces.now) p.tested.few p.faced

pub screen-seen-requires : goal.screen-seen-requires
screen-seen-requires c = c.tested_faces.ensures.k_is ∙ sym c.shelf_of-shelf.ensures.k_is

pub overflow_cast-result : goal.overflow_cast-result
overflow_cast-result c =
    let p = screen_tested (stock_of c.args.stock.now) (order_of c.args.order.now) (lent_faces c.args.faces.now) c.in_ok-run.ensures.first refl in
    omega (arith, screen_visits_most c.screen-seen.ensures, ap length c.shelf_of-shelf.ensures.order_is, run_few (stock_of c.args.stock.now) (order_of c.args.order.now) c.in_ok-run.ensures.slots p.tested p.room)

pub returns : goal.returns
returns c =
    let p = screen_tested (stock_of c.args.stock.now) (order_of c.args.order.now) (lent_faces c.args.faces.now) c.in_ok-run.ensures.first refl in
    let s = c.shelf_of-shelf.ensures in
    let f = c.tested_faces.ensures in
    let seen = rw (f.k_is, f.normals_are, f.offsets_are, f.marks_are, s.k_is, s.points_are, s.order_is, c.in_ok-run.ensures.slots, p.faced.offsets_size) at c.screen-seen.ensures in
    screen_done _ _ _ c.in_ok-run.ensures.first refl _ seen
