use Rattle.std.proofs.Common.{sym, ◌∙◌, ◌<◌, length, arith, eq-eqb, ne_eqb}
use Rattle.theory.specs.RisingNumbers.{length_members}
use Rattle.theory.specs.LiveNumbers.{live_byte}
use Rattle.arrange.specs.Filled.{filled_none, filled_skip, filled_behind, filled_turn, filled_full, filled_all}
use Rattle.arrange.proofs.live.fill_live.Goals as goal
use Rattle.arrange.proofs.live.fill_live.Goals.{else-byte-eq1, then-byte-eq1}

pub loop-p-init : goal.loop-p-init
loop-p-init c = filled_none _ _ _ (c.requires.order_len ∙ sym (length_members _ _))

pub loop-p-preserved : goal.loop-p-preserved
loop-p-preserved c =
    let f = c.loop-p.invariant in
    let left : c.loop-p.p < length c.args.live.now = omega arith in
    let says = live_byte (length c.args.live.now) c.args.live.now c.loop-p.p left in
    elim c.if-byte-eq1.branch [
      | then-byte-eq1 z ↦ rw z.at-is (filled_turn f left (says ∙ eq-eqb _ 1 z.if-byte-eq1.true))
      | else-byte-eq1 z ↦ rw z.at-is (filled_skip (filled_behind f _) left (says ∙ ne_eqb _ 1 z.if-byte-eq1.false))
    ]

pub returns-then-at-order : goal.returns-then-at-order
returns-then-at-order c = filled_full c.loop-p.invariant (omega arith)

pub returns : goal.returns
returns c = filled_all c.loop-p.invariant (omega arith)
