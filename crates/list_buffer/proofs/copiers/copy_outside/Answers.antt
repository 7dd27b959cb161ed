use Rattle.std.proofs.Common.{arith, ◌≡◌, ℕ, ◌-◌, length, sym, take-append-drop}
use Rattle.list_buffer.specs.Filled.{paste_back_more}
use Rattle.list_buffer.proofs.copiers.copy_outside.Goals as goal

pub loop-back-init : goal.loop-back-init
loop-back-init c =
    let a = c.args in
    let end : ℕ = length a.list.now - (a.done - a.inside) in
    let e : end - 0 ≡ end = omega arith in
    rw e (sym (take-append-drop end a.list.now))

pub loop-back-preserved : goal.loop-back-preserved
loop-back-preserved c =
    let a = c.args in
    let l = c.loop-back in
    let end : ℕ = length a.list.now - (a.done - a.inside) in
    rw l.invariant (paste_back_more a.list.now end a.run.now l.back (omega arith) (omega arith) (omega arith))

pub returns : goal.returns
returns c =
    let l = c.loop-back in
    let e : l.back ≡ length c.args.run.now = omega arith in
    rw e at l.invariant
