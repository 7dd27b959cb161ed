-- `left_box` meets its contract: the one entry is replaced in its row, and the other row is as it was.
use borrow.Author.Rules.{rules}
use mir.Facts.{to_z-of_z}
use Rattle.theory.specs.BoxLaws.{left_rows}
use Rattle.region.proofs.boxes.left_box.Goals as goal

pub returns : goal.returns
returns c =
    let next = rw (to_z-of_z c.ranges.x) at c.replaced-high.ensures in
    rw next (left_rows c.args.rows c.args.s c.args.x (search rules))
