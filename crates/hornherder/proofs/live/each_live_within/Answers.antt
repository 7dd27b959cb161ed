-- The first number that is live and out of range decides; where there is none, all are in range.
use Rattle.std.proofs.Common.{sym, ◌∙◌, arith}
use Rattle.terms.specs.Points.{coord}
use Rattle.terms.specs.Live.{is_live}
use Rattle.theory.specs.Flags.{contra, not_false, or_false}
use Rattle.theory.specs.PointsInRange.{in_range_each, each_in_range}
use Rattle.hornherder.proofs.live.each_live_within.Goals as goal

pub returns-then-not-dead_or_within : goal.returns-then-not-dead_or_within
returns-then-not-dead_or_within c =
    let l = c.loop-p in
    let s = c.args.shaped.now.stock in
    let no = or_false _ (sym c.dead_or_within.ensures ∙ c.if-not-dead_or_within.true) in
    sym (contra (λ e. in_range_each s.k (coord s.k s.points.now) (is_live s.n s.live.now) s.n e l.p c.loop-p-test.true (not_false _ no.0)) no.1)

pub returns : goal.returns
returns c =
    let s = c.args.shaped.now.stock in
    sym (each_in_range s.k (coord s.k s.points.now) (is_live s.n s.live.now) s.n (λ q m. c.loop-p.invariant q (omega arith)))
