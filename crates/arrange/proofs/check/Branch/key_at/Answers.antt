-- What is below n has a key, and the last 32-bit number is no key.
use Rattle.arrange.specs.Checked.{run_keyed, key_below_last}
use Rattle.arrange.specs.Looked.{looked_known}
use Rattle.arrange.proofs.check.Branch.key_at.Goals as goal

pub key-requires : goal.key-requires
key-requires c =
    let b = c.args.self.now in
    run_keyed (looked_known b) c.args.i c.requires.in_bounds c.requires.below_n b.s b.dimension

pub returns-clause-not_last : goal.returns-clause-not_last
returns-clause-not_last c =
    let b = c.args.self.now in
    rw c.key.ensures (key_below_last (looked_known b) c.args.i c.requires.in_bounds c.requires.below_n b.s b.dimension)
