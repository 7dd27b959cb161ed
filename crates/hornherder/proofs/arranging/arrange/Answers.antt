-- A refusal leaves the order, and so does the checker's yes; else the first v places come back as the tree and stand before the later ones.
use Rattle.std.proofs.Common.{refl, sym, ◌∙◌, length-take-le}
use Rattle.std.proofs.lemmas.List.{take-append-drop}
use Rattle.terms.specs.Lent.{order_of}
use Rattle.terms.specs.LentValues.{stock_of}
use Rattle.terms.specs.RefusalNumbers.{number_is, handed_on}
use Rattle.hornherder.specs.ArrangeOutcome.{arrange_tested, arrange_refused, arrange_kept, arrange_made}
use Rattle.hornherder.proofs.arranging.arrange.Goals as goal

pub returns-in_err-shaped : goal.returns-in_err-shaped
returns-in_err-shaped c = rw (handed_on _ c.from_residual.ensures) (arrange_refused _ _ c.in_err-shaped.ensures.first (number_is _))

pub slice_bounds-run-end : goal.slice_bounds-run-end
slice_bounds-run-end c = rw (c.in_ok-shaped.shaped.counted, c.in_ok-shaped.ensures.same) (arrange_tested (stock_of c.args.stock.now) (order_of c.args.order.now) c.in_ok-shaped.ensures.first refl).room

pub slice_bounds-run-end-2 : goal.slice_bounds-run-end-2
slice_bounds-run-end-2 c =
    let room = (arrange_tested (stock_of c.args.stock.now) (order_of c.args.order.now) c.in_ok-shaped.ensures.first refl).room in
    rw (c.in_ok-shaped.shaped.counted, c.in_ok-shaped.ensures.same) (sym (length-take-le _ _ room))

pub check-requires : goal.check-requires
check-requires c =
    let passed = arrange_tested (stock_of c.args.stock.now) (order_of c.args.order.now) c.in_ok-shaped.ensures.first refl in record {
      tested_points = passed.tested;
      order_len = rw (c.in_ok-shaped.shaped.counted, c.in_ok-shaped.ensures.same) (length-take-le _ _ passed.room);
    }

pub returns-then-check : goal.returns-then-check
returns-then-check c =
    let checked = rw (c.in_ok-shaped.shaped.counted, c.in_ok-shaped.ensures.same) at c.check.ensures in
    rw (take-append-drop c.in_ok-shaped.shaped.slots c.args.order.now)
    (arrange_kept _ _ c.in_ok-shaped.ensures.first refl (sym checked ∙ c.if-check.true))

pub build-requires : goal.build-requires
build-requires c =
    let passed = arrange_tested (stock_of c.args.stock.now) (order_of c.args.order.now) c.in_ok-shaped.ensures.first refl in record {
      tested_points = passed.tested;
      order_len = rw (c.in_ok-shaped.shaped.counted, c.in_ok-shaped.ensures.same) (length-take-le _ _ passed.room);
    }

pub returns : goal.returns
returns c =
    let checked = rw (c.in_ok-shaped.shaped.counted, c.in_ok-shaped.ensures.same) at c.check.ensures in
    rw (c.in_ok-shaped.shaped.counted, c.in_ok-shaped.ensures.same)
    (arrange_made _ _ c.in_ok-shaped.ensures.first refl (sym checked ∙ c.if-check.false) _ c.build.ensures)
