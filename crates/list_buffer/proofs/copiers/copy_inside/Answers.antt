use Rattle.std.proofs.Common.{arith, ◌≡◌, length, add-one}
use Rattle.std.proofs.Math.Seq.{paste-zero, paste-suc}
use Rattle.list_buffer.proofs.copiers.copy_inside.Goals as goal

pub loop-front-init : goal.loop-front-init
loop-front-init c = paste-zero c.args.list.now c.args.inside c.args.run.now

pub loop-front-preserved : goal.loop-front-preserved
loop-front-preserved c =
    let a = c.args in
    let l = c.loop-front in
    rw (l.invariant, add-one) (paste-suc a.list.now a.inside a.run.now l.front 0 (omega arith) (omega arith))

pub returns : goal.returns
returns c =
    let l = c.loop-front in
    let e : l.front ≡ length c.args.run.now = omega arith in
    rw e at l.invariant
