-- Where every lent coordinate is in range, so are those of the live numbers.
use Rattle.std.proofs.Common.{◌≡◌, true, sym, ◌∙◌, pos, negsuc}
use Rattle.terms.specs.Live.{is_live}
use Rattle.theory.specs.PointsInRange.{blind_in_range}
use Rattle.hornherder.specs.Between.{every_int}
use Rattle.hornherder.proofs.live.live_within.Goals as goal

pub returns-then-all_within : goal.returns-then-all_within
returns-then-all_within c =
    let s = c.args.shaped.now.stock in
    let yes : c.all_within.result ≡ true = c.if-all_within.true in
    yes ∙ sym (blind_in_range s.k s.points.now (is_live s.n s.live.now) s.n (sym (c.all_within.ensures ∙ every_int (negsuc 32767) (pos 32767) s.points.now) ∙ yes))
