-- `right_box` meets its contract: the one entry is replaced in its row, and the other row is as it was.
use borrow.Author.Rules.{rules}
use mir.Facts.{to_z-of_z}
use Rattle.theory.specs.BoxLaws.{right_rows}
use Rattle.region.proofs.boxes.right_box.Goals as goal

pub returns : goal.returns
returns c =
    let next = rw (to_z-of_z c.ranges.x) at c.replaced-low.ensures in
    rw next (right_rows c.args.rows c.args.s c.args.x (search rules))
