use mathlib.Core.Path.{◌≡◌}
use native.Mathlib.Omega.{arith}
use lib.ListN.{length}
use Rattle.descent.specs.SlotsBox.{spanned_more, spanned_all}
use Rattle.descent.proofs.slots_box.slots_box.Goals as goal

pub loop-p-preserved : goal.loop-p-preserved
loop-p-preserved c = spanned_more c.requires.k_bound c.loop-p.invariant (λ d m. c.point_at-x.ensures.same.same d m) c.joined-rows.ensures

pub returns : goal.returns
returns c =
    let e : c.loop-p.p-index ≡ length c.args.order.now = omega arith in
    spanned_all c.requires.known (rw e at c.loop-p.invariant)
