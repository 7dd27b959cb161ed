use Rattle.std.proofs.Common.{◌≡◌, refl, List, ◌++◌, ℕ, ◌+◌, ◌-◌, ◌<◌, length, drop, arith, length-take, mod-lt}
use Rattle.terms.specs.Points.{coord}
use Rattle.terms.specs.Run.{middle, axis}
use Rattle.theory.specs.Counting.{Same, same_length, same_trans, same_front}
use Rattle.arrange.specs.Arranged.{arranged_short, arranged_small, arranged_node, arrangeable_same, arrangeable_front, arrangeable_back}
use Rattle.arrange.proofs.build.+arrange.Goals as goal

-- The next dimension is one of the points'.
next_below : (k s n : ℕ) → s < k → n ≡ axis k (s + 1) → n < k
next_below k s n l e = rw e (mod-lt (s + 1) (omega arith))

pub returns-then-c-lt2 : goal.returns-then-c-lt2
returns-then-c-lt2 t c =
    let k = c.args.stock.now.k in
    arranged_short k (coord k c.args.stock.now.points.now) c.args.s c.args.run.now c.if-c-lt2.true

-- Halves of one slot or none are trees.
pub returns-then-c-lt4 : goal.returns-then-c-lt4
returns-then-c-lt4 t c =
    let a = c.args in
    let k = a.stock.now.k in
    arranged_small
    k (coord k a.stock.now.points.now) a.s (axis k (a.s + 1)) a.run.now c.place_node.new.run _
    c.requires.keyed.dimension refl (omega arith) c.place_node.ensures (omega arith) c.if-c-lt4.true

pub arrange-requires : goal.arrange-requires
arrange-requires t c =
    let place : ℕ = middle (length c.args.run.now) in
    let next = next_below c.args.stock.now.k c.args.s c.next_axis-next.result c.requires.keyed.dimension c.next_axis-next.ensures in (
      omega (arith, c.decreases, length-take place c.place_node.new.run),
      arrangeable_front (arrangeable_same c.requires c.place_node.ensures.same) _ place next,
    )

-- Once its first part is back the run holds the same numbers in another order.
pub arrange-requires-2 : goal.arrange-requires-2
arrange-requires-2 t c =
    let place : ℕ = middle (length c.args.run.now) in
    let next = next_below c.args.stock.now.k c.args.s c.next_axis-next.result c.requires.keyed.dimension c.next_axis-next.ensures in
    let placed : List ℕ = c.place_node.new.run in
    let run : List ℕ = c.arrange.new.run ++ drop place placed in
    let same : Same run c.args.run.now = same_trans (same_front placed place c.arrange.ensures.same) c.place_node.ensures.same in
    let size = same_length same in
    let r : ℕ = place + 1 in (
      omega (arith, c.decreases, length-take (length run - r) (drop r run)),
      arrangeable_front (arrangeable_back (arrangeable_same c.requires same) _ r next) _ (length run - r) next,
    )

-- The two parts came back.
pub returns : goal.returns
returns t c =
    let a = c.args in
    let k = a.stock.now.k in
    let n = c.next_axis-next in
    arranged_node
    k (coord k a.stock.now.points.now) a.s n.result a.run.now c.place_node.new.run _
    c.requires.keyed.dimension n.ensures (omega arith) c.place_node.ensures (omega arith) _
    c.arrange.ensures c.arrange-2.ensures (omega arith)
