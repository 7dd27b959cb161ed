-- The filled order holds the numbers that belong, each once, and arranging makes a tree of them.
use Rattle.terms.specs.LentValues.{stock_of}
use Rattle.terms.specs.Points.{belongs_to}
use Rattle.arrange.specs.Arranged.{stock_arrangeable, arranged_tree}
use Rattle.arrange.proofs.build.build.Goals as goal

pub fill_order-requires : goal.fill_order-requires
fill_order-requires c =
    let bytes = c.requires.tested_points.bytes in
    record { live_len_bound = rw bytes c.requires.tested_points.many; order_len = rw bytes c.requires.order_len }

pub arrange-requires : goal.arrange-requires
arrange-requires c =
    let bytes = c.requires.tested_points.bytes in
    rw c.fill_order.ensures (rw bytes (stock_arrangeable (stock_of c.args.stock.now) c.requires.tested_points))

pub returns : goal.returns
returns c =
    let s = stock_of c.args.stock.now in
    arranged_tree (belongs_to s) s.n (rw (c.fill_order.ensures, c.requires.tested_points.bytes) at c.arrange.ensures)
