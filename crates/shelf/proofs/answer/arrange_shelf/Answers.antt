-- The arrange call decides: its refusal is printed, or what listing the arranged order gives.
use Rattle.std.proofs.Common.{refl}
use borrow.Author.Rules.{rules}
use Rattle.terms.specs.RefusalNumbers.{number_is}
use Rattle.shelf.specs.Answering.{arranging_refused, arranging_done}
use Rattle.shelf.proofs.answer.arrange_shelf.Goals as goal

pub returns-in-Err : goal.returns-in-Err
returns-in-Err c =
    let refused = rw c.in-Err.is at c.arrange.ensures in
    arranging_refused (search rules) refused (number_is _) (rw c.number.ensures at c.write_refused.ensures)

pub returns-in-Ok : goal.returns-in-Ok
returns-in-Ok c =
    let done = rw c.in-Ok.is at c.arrange.ensures in
    arranging_done (search rules) done refl c.list_shelf.ensures
