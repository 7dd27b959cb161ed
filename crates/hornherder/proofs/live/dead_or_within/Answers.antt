-- A dead number passes unread; of a live one the part of the points that holds its coordinates is asked.
use Rattle.std.proofs.Common.{◌≡◌, ◌∙◌, ◌+◌, ◌-◌, ◌*◌, pos, negsuc, arith, eq-eqb}
use Rattle.theory.specs.LiveNumbers.{live_byte}
use Rattle.hornherder.specs.Between.{every_int}
use Rattle.hornherder.specs.Live.{part_in_range}
use Rattle.hornherder.proofs.live.dead_or_within.Goals as goal

pub returns : goal.returns
returns c =
    let p = c.args.p in
    let s = c.args.shaped.now in
    let alive = live_byte s.stock.n s.stock.live.now p c.requires ∙ eq-eqb _ 1 c.if-stock-p-ne1.false in
    let size : p * s.stock.k + s.stock.k - p * s.stock.k ≡ s.stock.k = omega arith in
    rw alive ((rw size at c.all_within.ensures) ∙ every_int (negsuc 32767) (pos 32767) _ ∙ part_in_range s.lent c.requires)
