-- The lowest face that the point is below, or that there is none, decides between the two cases.
use mathlib.Core.Path.{sym}
use Rattle.std.specs.Prelude.{Some, None}
use Rattle.terms.specs.Points.{lone}
use Rattle.theory.specs.ReasonOnTheWay.{own_inside, own_outside}
use Rattle.region.specs.Told.{told}
use Rattle.region.specs.Lowest.{lowest_face_is}
use Rattle.region.proofs.Signed.{back64}
use Rattle.reason.proofs.way.own_reason.Goals as goal

pub returns-in-None : goal.returns-in-None
returns-in-None c =
    let none = rw c.in-None.is at c.lowest_below.ensures in
    let g = told c.args.table.now in
    let x = lone c.args.x in
    sym (own_inside g x c.args.slot (sym (lowest_face_is g x None none)))

pub face_margin-margin-requires : goal.face_margin-margin-requires
face_margin-margin-requires c =
    let some = rw c.in-Some.is at c.lowest_below.ensures in
    record { coordinates = c.requires; known = some.known }

pub returns-in-Some : goal.returns-in-Some
returns-in-Some c =
    let some = rw c.in-Some.is at c.lowest_below.ensures in
    let g = told c.args.table.now in
    let x = lone c.args.x in
    let e = lowest_face_is g x (Some c.in-Some.face) some in
    rw (back64 c.face_margin-margin.type_inv, c.face_margin-margin.ensures, e) (sym (own_outside g x c.args.slot (rw e at some.known)))
