-- Of the table every face is live for any box, so that the root can be walked; and what is walked by the table is walked by the faces.
use Rattle.std.proofs.Common.{ap, length}
use Rattle.region.specs.Live.{lives_front}
use Rattle.walk.specs.Down.{walked_by_faces, walked_all}
use Rattle.walk.proofs.down.walk_down.Goals as goal

pub branch-branches-requires-clause-lives : goal.branch-branches-requires-clause-lives
branch-branches-requires-clause-lives g c =
    let f = c.args.faces.now in
    let made = c.faces_table-table.ensures in
    lives_front ((c.all_faces-live.ensures (length f.offsets.now) f.known.tested.many).lives _ _ (ap length made.offsets_are))

pub returns : goal.returns
returns g c =
    let w = rw (c.default.ensures.0, c.default.ensures.1) at c.branch-branches.ensures in
    walked_all c.requires.start c.requires.root_length (walked_by_faces c.faces_table-table.ensures w)
