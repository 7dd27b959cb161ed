-- Where the order has a slot for each number all of them are live; else the live ones are filled in by their bytes.
use Rattle.std.proofs.Common.{◌≡◌, length, sym, ◌∙◌}
use Rattle.terms.specs.Live.{live_count}
use Rattle.theory.specs.LiveNumbers.{full_live}
use Rattle.arrange.proofs.build.fill_order.Goals as goal

pub returns-then-order-live : goal.returns-then-order-live
returns-then-order-live c =
    let live = c.args.live.now in
    let full : live_count (length live) live ≡ length live = sym c.requires.order_len ∙ c.if-order-live.true in
    rw (full_live (length live) live full) (rw c.if-order-live.true at c.fill.ensures)
