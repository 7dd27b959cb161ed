use Rattle.std.proofs.Common.{arith, pos}
use Rattle.std.proofs.Math.Seq.{ext_get_or}
use Rattle.hornherder.proofs.take.write_coordinates.Goals as goal

pub returns : goal.returns
returns c = let l = c.loop-d in ext_get_or (pos 0) _ _ (omega arith) (λ e m. l.invariant e (omega arith))
