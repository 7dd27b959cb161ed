-- The three calls together: the keys are the run under a function, one of them is chosen, and their numbers are read back.
use Rattle.arrange.specs.Placed.{placed}
use Rattle.arrange.proofs.build.place_node.Goals as goal

pub returns : goal.returns
returns c =
    let ch = c.choose.ensures in
    let keys = c.write_keys.ensures in
    rw c.write_numbers.ensures (placed c.requires.arrangeable.keyed c.requires.arrangeable.distinct c.requires.m_in_bounds (rw keys at ch))
