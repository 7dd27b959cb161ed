use Rattle.std.proofs.Common.{arith}
use Rattle.arrange.specs.LeastFirst.{least_one, least_turn}
use Rattle.arrange.proofs.choose.least_first.Goals as goal

pub loop-t-init : goal.loop-t-init
loop-t-init c = let b = c.args in least_one b.run.now b.a b.e

pub loop-t-preserved : goal.loop-t-preserved
loop-t-preserved c =
    let l = c.loop-t in
    least_turn l.run l.invariant (omega arith) (omega arith) (omega arith)
    (record { less = λ h. omega (arith, c.max.ensures); more = λ h. omega (arith, c.max.ensures) })
    (record { less = λ h. omega (arith, c.min-least.ensures); more = λ h. omega (arith, c.min-least.ensures) })
