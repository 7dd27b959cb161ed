-- A run of two slots at most: none, one that is its node, or a node with one slot before it. In the last case the law of two slots gives the
-- answer by the test of both and by their keys.
use Rattle.std.proofs.Common.{arith, sym, ◌∙◌}
use Rattle.arrange.specs.Descent.{empty_branch, lone_slot}
use Rattle.arrange.specs.Checked.{on_two}
use Rattle.arrange.specs.Looked.{looked_descends, slots_below}
use Rattle.arrange.proofs.check.Branch.few_slots.Goals as goal

pub returns-then-c-eq0 : goal.returns-then-c-eq0
returns-then-c-eq0 c = sym (empty_branch _ _ _ _ _ _ _ _ c.if-c-eq0.true)

pub returns-then-c-eq1 : goal.returns-then-c-eq1
returns-then-c-eq1 c = c.allowed.ensures ∙ lone_slot _ _ _ _ _ _ _ _ c.if-c-eq1.true

pub returns-then-not-three_allowed : goal.returns-then-not-three_allowed
returns-then-not-three_allowed c =
    let w = looked_descends c.args.self.now c.args.bounds.now (omega arith) (omega arith) in
    sym (on_two w (omega arith) ∙ rw (sym c.three_allowed.ensures ∙ c.if-not-three_allowed.true))

pub key_at-requires-clause-below_n : goal.key_at-requires-clause-below_n
key_at-requires-clause-below_n c =
    (slots_below c.args.self.now c.args.bounds.now 1 0 0 (sym c.three_allowed.ensures ∙ c.if-not-three_allowed.false)).1

pub key_at-requires-2-clause-below_n : goal.key_at-requires-2-clause-below_n
key_at-requires-2-clause-below_n c =
    (slots_below c.args.self.now c.args.bounds.now 1 0 0 (sym c.three_allowed.ensures ∙ c.if-not-three_allowed.false)).0

pub returns : goal.returns
returns c =
    let w = looked_descends c.args.self.now c.args.bounds.now (omega arith) (omega arith) in
    rw (c.key_at.ensures.value, c.key_at-2.ensures.value)
    (sym (on_two w (omega arith) ∙ rw (sym c.three_allowed.ensures ∙ c.if-not-three_allowed.false)))
