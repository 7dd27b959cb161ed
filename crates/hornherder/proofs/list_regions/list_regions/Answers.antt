-- A refusal leaves both buffers; where all was passed, each region has its faces and room, and the walk of each fills its places and its counts.
use Rattle.std.proofs.Common.{refl, sym, length-take-le}
use Rattle.terms.specs.Lent.{order_of}
use Rattle.terms.specs.LentValues.{stock_of, lent_regions}
use Rattle.terms.specs.RefusalNumbers.{number_is, handed_on}
use Rattle.hornherder.specs.TestedRun.{run_shelved, run_length, run_few}
use Rattle.hornherder.specs.ListRegionsOutcome.{regions_passed, regions_refused, regions_done}
use Rattle.hornherder.proofs.list_regions.list_regions.Goals as goal

pub returns-in_err-run : goal.returns-in_err-run
returns-in_err-run c = rw (handed_on _ c.from_residual.ensures) (regions_refused _ _ _ _ _ c.in_err-run.ensures.first (number_is _))

pub shelf_of-shelf-requires : goal.shelf_of-shelf-requires
shelf_of-shelf-requires c = let p = regions_passed (stock_of c.args.stock.now) (order_of c.args.order.now) (lent_regions c.args.regions.now) c.args.lists.now c.args.counts.now c.in_ok-run.ensures.first refl in run_shelved (stock_of c.args.stock.now) (order_of c.args.order.now) c.in_ok-run.ensures.slots p.tested p.shelf

pub invariant_of-joined : goal.invariant_of-joined
invariant_of-joined c = let p = regions_passed (stock_of c.args.stock.now) (order_of c.args.order.now) (lent_regions c.args.regions.now) c.args.lists.now c.args.counts.now c.in_ok-run.ensures.first refl in record { tested = rw p.counted.counted p.regions }

pub walk_regions-requires : goal.walk_regions-requires
walk_regions-requires c =
    let p = regions_passed (stock_of c.args.stock.now) (order_of c.args.order.now) (lent_regions c.args.regions.now) c.args.lists.now c.args.counts.now c.in_ok-run.ensures.first refl in
    let s = c.shelf_of-shelf.ensures in
    let slots = run_length (stock_of c.args.stock.now) (order_of c.args.order.now) c.in_ok-run.ensures.slots p.room in record {
      same_k = sym s.k_is;
      room_for_regions = rw (s.order_is, p.counted.counted) (record { few = run_few (stock_of c.args.stock.now) (order_of c.args.order.now) c.in_ok-run.ensures.slots p.tested p.room; lists_room = rw slots p.lists_room; counts_room = p.counts_room });
    }

pub returns : goal.returns
returns c =
    let p = regions_passed (stock_of c.args.stock.now) (order_of c.args.order.now) (lent_regions c.args.regions.now) c.args.lists.now c.args.counts.now c.in_ok-run.ensures.first refl in
    let s = c.shelf_of-shelf.ensures in
    let walked = rw (s.k_is, s.points_are, s.order_is, p.counted.counted, c.in_ok-run.ensures.slots) at c.walk_regions.ensures in
    regions_done _ _ _ _ _ c.in_ok-run.ensures.first refl (length-take-le _ _ p.room) walked
