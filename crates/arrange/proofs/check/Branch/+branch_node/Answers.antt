-- Where the node is allowed its two branches give the answer, the left one first.
use Rattle.std.proofs.Common.{arith, length, sym, ◌∙◌}
use Rattle.terms.specs.Run.{middle}
use Rattle.arrange.specs.Descent.{refused_node}
use Rattle.arrange.specs.Looked.{slot_below, answer_by_left, answer_of_right}
use Rattle.arrange.proofs.check.Branch.+branch_node.Goals as goal

pub node-returns-then-not-allowed : goal.node-returns-then-not-allowed
node-returns-then-not-allowed t c = sym (refused_node _ _ _ _ _ _ _ _ c.requires (sym c.allowed.ensures ∙ c.if-not-allowed.true))

pub node-key_at-x-requires-clause-below_n : goal.node-key_at-x-requires-clause-below_n
node-key_at-x-requires-clause-below_n t c =
    slot_below c.args.self.now c.args.bounds.now (middle (length c.args.self.now.order.now)) (sym c.allowed.ensures ∙ c.if-not-allowed.false)

pub node-returns-then-not-branch : goal.node-returns-then-not-branch
node-returns-then-not-branch t c =
    let step =
    answer_by_left
    c.args.self.now c.args.bounds.now c.left.result c.end_at.new.self c.key_at-x.result (omega arith) (omega arith) c.requires
    (sym c.allowed.ensures ∙ c.if-not-allowed.false) c.key_at-x.ensures.value c.end_at.ensures.least c.end_at.ensures.end c.left.ensures in
    sym (step ∙ rw (sym c.branch-left.ensures ∙ c.if-not-branch.true))

pub node-returns : goal.node-returns
node-returns t c =
    let b = c.args.self.now in
    let step =
    answer_by_left
    b c.args.bounds.now c.left.result c.end_at.new.self c.key_at-x.result (omega arith) (omega arith) c.requires
    (sym c.allowed.ensures ∙ c.if-not-allowed.false) c.key_at-x.ensures.value c.end_at.ensures.least c.end_at.ensures.end c.left.ensures in
    c.branch-right.ensures
    ∙ answer_of_right b c.args.bounds.now c.right.result c.start_after.new.self c.key_at-x.result c.start_after.ensures.least c.start_after.ensures.end c.right.ensures
    ∙ sym (step ∙ rw (sym c.branch-left.ensures ∙ c.if-not-branch.false))
