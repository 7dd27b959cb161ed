-- The place of the coordinate is within the points, and a tested coordinate lifts to a number below 65,536, so that nothing wraps.
use native.Mathlib.Omega.{arith}
use Rattle.terms.specs.Points.{coord}
use Rattle.arrange.specs.Key.{key_of, Lifts, lifts}
use Rattle.arrange.proofs.key.key.Goals as goal

pub returns : goal.returns
unfolding key_of
returns c =
    -- what is read of the points
    let coordinate : Lifts (coord c.args.stock.now.k c.args.stock.now.points.now c.args.p c.args.s) =
    lifts _ c.requires.range in
    rw (coordinate).back (omega arith)
