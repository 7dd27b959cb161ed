-- A slot with a dead number is no part of a tree. Else the root's bounds leave every key in, so the descent's answer from the root is whether the order
-- is the tree.
use Rattle.std.proofs.Common.{sym, ◌∙◌}
use Rattle.terms.specs.LentValues.{stock_of}
use Rattle.arrange.specs.Descent.{empty_branch}
use Rattle.arrange.specs.Checked.{root_answer, dead_no_tree}
use Rattle.arrange.proofs.check.check.Goals as goal

pub returns-then-not-none_dead : goal.returns-then-not-none_dead
returns-then-not-none_dead c =
    let s = stock_of c.args.stock.now in
    sym (dead_no_tree s c.args.order.now (rw c.requires.tested_points.bytes at (c.none_dead.ensures.no c.if-not-none_dead.true)))

pub returns-then-order-eq0 : goal.returns-then-order-eq0
returns-then-order-eq0 c =
    let numbers = rw c.requires.tested_points.bytes at (c.none_dead.ensures.yes c.if-not-none_dead.false) in
    sym (empty_branch _ _ _ _ _ _ _ _ c.if-order-eq0.true) ∙ root_answer c.requires.tested_points c.args.order.now c.requires.order_len numbers

pub returns : goal.returns
returns c =
    let numbers = rw c.requires.tested_points.bytes at (c.none_dead.ensures.yes c.if-not-none_dead.false) in
    rw (c.of_root.ensures.least, c.of_root.ensures.end) at c.node.ensures
    ∙ root_answer c.requires.tested_points c.args.order.now c.requires.order_len numbers
