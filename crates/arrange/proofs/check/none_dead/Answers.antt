-- As many slots as numbers: none is dead. Else the slots themselves are asked.
use Rattle.std.proofs.Common.{arith, length}
use Rattle.arrange.specs.Checked.{all_none_dead, live_none_dead}
use Rattle.arrange.proofs.check.none_dead.Goals as goal

pub returns-then-order-live : goal.returns-then-order-live
returns-then-order-live c = all_none_dead (length c.args.live.now) c.args.live.now c.args.order.now (omega arith)

pub returns : goal.returns
returns c =
    let a = c.args in
    rw c.all_live.ensures (live_none_dead (length a.live.now) a.live.now a.order.now)
