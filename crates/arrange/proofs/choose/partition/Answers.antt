use Rattle.std.proofs.Common.{arith}
use Rattle.arrange.specs.Parted.{parted_turn}
use Rattle.arrange.proofs.choose.partition.Goals as goal

pub loop-t-preserved : goal.loop-t-preserved
loop-t-preserved c =
    let l = c.loop-t in
    parted_turn l.invariant (omega arith) (omega arith)
