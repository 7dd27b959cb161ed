-- A run of three slots: the law of three slots gives the answer by the test of all and by their keys.
use Rattle.std.proofs.Common.{arith, sym, ◌∙◌}
use Rattle.arrange.specs.Checked.{on_three}
use Rattle.arrange.specs.Looked.{looked_descends, slots_below}
use Rattle.arrange.proofs.check.Branch.three_slots.Goals as goal

pub returns-then-not-three_allowed : goal.returns-then-not-three_allowed
returns-then-not-three_allowed c =
    let w = looked_descends c.args.self.now c.args.bounds.now (omega arith) (omega arith) in
    sym (on_three w c.requires ∙ rw (sym c.three_allowed.ensures ∙ c.if-not-three_allowed.true))

pub key_at-x-requires-clause-below_n : goal.key_at-x-requires-clause-below_n
key_at-x-requires-clause-below_n c =
    (slots_below c.args.self.now c.args.bounds.now 1 0 2 (sym c.three_allowed.ensures ∙ c.if-not-three_allowed.false)).0

pub key_at-requires-clause-below_n : goal.key_at-requires-clause-below_n
key_at-requires-clause-below_n c =
    (slots_below c.args.self.now c.args.bounds.now 1 0 2 (sym c.three_allowed.ensures ∙ c.if-not-three_allowed.false)).1

pub key_at-requires-2-clause-below_n : goal.key_at-requires-2-clause-below_n
key_at-requires-2-clause-below_n c =
    (slots_below c.args.self.now c.args.bounds.now 1 0 2 (sym c.three_allowed.ensures ∙ c.if-not-three_allowed.false)).2

pub returns : goal.returns
returns c =
    let w = looked_descends c.args.self.now c.args.bounds.now (omega arith) (omega arith) in
    rw (c.key_at-x.ensures.value, c.key_at.ensures.value, c.key_at-2.ensures.value)
    (sym (on_three w c.requires ∙ rw (sym c.three_allowed.ensures ∙ c.if-not-three_allowed.false)))
