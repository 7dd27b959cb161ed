use Rattle.std.proofs.Common.{arith}
use Rattle.arrange.specs.Chosen.{narrowed_least, chosen_least}
use Rattle.arrange.proofs.choose.finish.Goals as goal

pub loop-i-preserved : goal.loop-i-preserved
loop-i-preserved c = narrowed_least c.loop-i.invariant c.least_first.ensures (omega arith)

pub returns-2 : goal.returns-2
returns-2 c = let n = c.loop-i.invariant in chosen_least n c.least_first.ensures (omega arith)
