-- A refusal leaves the list; where all was passed, the walk fills the first v places and counts, and no count is over v.
use Rattle.std.proofs.Common.{refl, sym, ap, ◌∙◌, arith, length, length-take-le}
use Rattle.terms.specs.Lent.{order_of}
use Rattle.terms.specs.LentValues.{stock_of, lent_faces}
use Rattle.terms.specs.RefusalNumbers.{number_is, handed_on}
use Rattle.walk.specs.Shelf.{counts_at_most}
use Rattle.hornherder.specs.TestedRun.{run_shelved, run_length, run_few, faces_known}
use Rattle.hornherder.specs.ListOutcome.{list_tested, list_refused, list_done}
use Rattle.hornherder.proofs.list.list.Goals as goal

pub returns-in_err-run : goal.returns-in_err-run
returns-in_err-run c = rw (handed_on _ c.from_residual.ensures) (list_refused _ _ _ _ c.in_err-run.ensures.first (number_is _))

pub shelf_of-shelf-requires : goal.shelf_of-shelf-requires
shelf_of-shelf-requires c = let p = list_tested (stock_of c.args.stock.now) (order_of c.args.order.now) (lent_faces c.args.faces.now) c.args.list.now c.in_ok-run.ensures.first refl in run_shelved (stock_of c.args.stock.now) (order_of c.args.order.now) c.in_ok-run.ensures.slots p.tested p.shelf

pub tested_faces-faces-requires : goal.tested_faces-faces-requires
tested_faces-faces-requires c = let p = list_tested (stock_of c.args.stock.now) (order_of c.args.order.now) (lent_faces c.args.faces.now) c.args.list.now c.in_ok-run.ensures.first refl in faces_known c.args.stock.now.k (lent_faces c.args.faces.now) p.tested.few p.faced

pub slice_bounds-walk-end : goal.slice_bounds-walk-end
slice_bounds-walk-end c = let p = list_tested (stock_of c.args.stock.now) (order_of c.args.order.now) (lent_faces c.args.faces.now) c.args.list.now c.in_ok-run.ensures.first refl in rw (run_length (stock_of c.args.stock.now) (order_of c.args.order.now) c.in_ok-run.ensures.slots p.room) p.list_room

pub slice_bounds-walk-end-2 : goal.slice_bounds-walk-end-2
slice_bounds-walk-end-2 c = let p = list_tested (stock_of c.args.stock.now) (order_of c.args.order.now) (lent_faces c.args.faces.now) c.args.list.now c.in_ok-run.ensures.first refl in sym (length-take-le _ _ (rw (run_length (stock_of c.args.stock.now) (order_of c.args.order.now) c.in_ok-run.ensures.slots p.room) p.list_room))

pub walk-tally-requires : goal.walk-tally-requires
walk-tally-requires c =
    let p = list_tested (stock_of c.args.stock.now) (order_of c.args.order.now) (lent_faces c.args.faces.now) c.args.list.now c.in_ok-run.ensures.first refl in
    let s = c.shelf_of-shelf.ensures in record {
      same_k = c.tested_faces-faces.ensures.k_is ∙ sym s.k_is;
      list_len = length-take-le _ _ (rw (run_length (stock_of c.args.stock.now) (order_of c.args.order.now) c.in_ok-run.ensures.slots p.room) p.list_room) ∙ sym (ap length s.order_is);
    }

pub overflow_cast-listed : goal.overflow_cast-listed
overflow_cast-listed c =
    let p = list_tested (stock_of c.args.stock.now) (order_of c.args.order.now) (lent_faces c.args.faces.now) c.args.list.now c.in_ok-run.ensures.first refl in
    omega (arith, (counts_at_most c.walk-tally.ensures).inside, ap length c.shelf_of-shelf.ensures.order_is, run_few (stock_of c.args.stock.now) (order_of c.args.order.now) c.in_ok-run.ensures.slots p.tested p.room)

pub overflow_cast-listed-2 : goal.overflow_cast-listed-2
overflow_cast-listed-2 c =
    let p = list_tested (stock_of c.args.stock.now) (order_of c.args.order.now) (lent_faces c.args.faces.now) c.args.list.now c.in_ok-run.ensures.first refl in
    omega (arith, (counts_at_most c.walk-tally.ensures).outside, ap length c.shelf_of-shelf.ensures.order_is, run_few (stock_of c.args.stock.now) (order_of c.args.order.now) c.in_ok-run.ensures.slots p.tested p.room)

pub overflow_cast-listed-3 : goal.overflow_cast-listed-3
overflow_cast-listed-3 c =
    let p = list_tested (stock_of c.args.stock.now) (order_of c.args.order.now) (lent_faces c.args.faces.now) c.args.list.now c.in_ok-run.ensures.first refl in
    omega (arith, (counts_at_most c.walk-tally.ensures).visited, ap length c.shelf_of-shelf.ensures.order_is, run_few (stock_of c.args.stock.now) (order_of c.args.order.now) c.in_ok-run.ensures.slots p.tested p.room)

pub returns : goal.returns
returns c =
    let p = list_tested (stock_of c.args.stock.now) (order_of c.args.order.now) (lent_faces c.args.faces.now) c.args.list.now c.in_ok-run.ensures.first refl in
    let s = c.shelf_of-shelf.ensures in
    let f = c.tested_faces-faces.ensures in
    let walked = rw (f.k_is, f.normals_are, f.offsets_are, f.marks_are, s.k_is, s.points_are, s.order_is, c.in_ok-run.ensures.slots, p.faced.offsets_size) at c.walk-tally.ensures in
    rw (run_length (stock_of c.args.stock.now) (order_of c.args.order.now) c.in_ok-run.ensures.slots p.room)
    (list_done _ _ _ _ c.in_ok-run.ensures.first refl (length-take-le _ _ p.room) _ _ _ walked)
