use native.Mathlib.Omega.{arith}
use Rattle.arrange.specs.WrittenInPlace.{mapped_all}
use Rattle.arrange.specs.Key.{key_of}
use Rattle.arrange.specs.Placed.{keyed_at}
use Rattle.arrange.proofs.key.write_keys.Goals as goal

pub key-requires : goal.key-requires
key-requires c =
    let l = c.loop-slot in
    rw (l.invariant.later l.slot-index (omega arith)) (keyed_at c.requires l.slot-index (omega arith))

pub returns : goal.returns
returns c =
    let b = c.args in
    mapped_all (key_of b.stock.now.k b.stock.now.points.now b.s) c.loop-slot.invariant (omega arith)
