-- A refusal is the answer; where all was passed, the reason that is found in the first v slots is, and its slot and face are small.
use Rattle.std.proofs.Common.{refl, sym, ◌∙◌}
use Rattle.terms.specs.Lent.{order_of}
use Rattle.terms.specs.LentValues.{stock_of, lent_faces}
use Rattle.terms.specs.RefusalNumbers.{number_is, handed_on}
use Rattle.theory.proofs.ExplainCall.{picture_stands}
use Rattle.hornherder.specs.TestedRun.{run_shelved, faces_known}
use Rattle.hornherder.specs.ExplainOutcome.{explain_tested, explain_refused, reason_small, explain_done}
use Rattle.hornherder.proofs.explain.explain.Goals as goal

pub returns-in_err-run-clause-answered : goal.returns-in_err-run-clause-answered
returns-in_err-run-clause-answered c = rw (handed_on _ c.from_residual.ensures) (explain_refused _ _ _ _ c.in_err-run.ensures.first (number_is _))

pub shelf_of-shelf-requires : goal.shelf_of-shelf-requires
shelf_of-shelf-requires c = let p = (explain_tested (stock_of c.args.stock.now) (order_of c.args.order.now) (lent_faces c.args.faces.now) c.args.number c.in_ok-run.ensures.first refl).screened in run_shelved (stock_of c.args.stock.now) (order_of c.args.order.now) c.in_ok-run.ensures.slots p.tested p.shelf

pub tested_faces-requires : goal.tested_faces-requires
tested_faces-requires c = let p = (explain_tested (stock_of c.args.stock.now) (order_of c.args.order.now) (lent_faces c.args.faces.now) c.args.number c.in_ok-run.ensures.first refl).screened in faces_known c.args.stock.now.k (lent_faces c.args.faces.now) p.tested.few p.faced

pub reason-requires : goal.reason-requires
reason-requires c =
    let w = explain_tested (stock_of c.args.stock.now) (order_of c.args.order.now) (lent_faces c.args.faces.now) c.args.number c.in_ok-run.ensures.first refl in
    let s = c.shelf_of-shelf.ensures in record {
      same_k = c.tested_faces.ensures.k_is ∙ sym s.k_is;
      in_run = rw (s.order_is, c.in_ok-run.ensures.slots) (picture_stands _ _ _ _ w);
    }

pub returns-clause-answered : goal.returns-clause-answered
returns-clause-answered c =
    let p = (explain_tested (stock_of c.args.stock.now) (order_of c.args.order.now) (lent_faces c.args.faces.now) c.args.number c.in_ok-run.ensures.first refl).screened in
    let s = c.shelf_of-shelf.ensures in
    let f = c.tested_faces.ensures in
    let found = rw (f.k_is, f.normals_are, f.offsets_are, f.marks_are, s.k_is, s.points_are, s.order_is, c.in_ok-run.ensures.slots, p.faced.offsets_size) at c.reason.ensures in
    explain_done _ _ _ _ c.in_ok-run.ensures.first refl found refl

pub returns-clause-small : goal.returns-clause-small
returns-clause-small c =
    let p = (explain_tested (stock_of c.args.stock.now) (order_of c.args.order.now) (lent_faces c.args.faces.now) c.args.number c.in_ok-run.ensures.first refl).screened in
    let s = c.shelf_of-shelf.ensures in
    let f = c.tested_faces.ensures in
    let found = rw (f.k_is, f.normals_are, f.offsets_are, f.marks_are, s.k_is, s.points_are, s.order_is, c.in_ok-run.ensures.slots, p.faced.offsets_size) at c.reason.ensures in
    rw found (reason_small (stock_of c.args.stock.now) (order_of c.args.order.now) (lent_faces c.args.faces.now) c.args.number c.in_ok-run.ensures.first refl)
