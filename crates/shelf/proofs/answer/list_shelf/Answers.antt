-- The list call decides: its refusal is printed, or the order with what it gave.
use Rattle.std.proofs.Common.{refl}
use borrow.Author.Rules.{rules}
use Rattle.terms.specs.RefusalNumbers.{number_is}
use Rattle.shelf.specs.Answering.{listing_refused, listing_done}
use Rattle.shelf.proofs.answer.list_shelf.Goals as goal

pub returns-in-Err : goal.returns-in-Err
returns-in-Err c =
    let refused = rw c.in-Err.is at c.list.ensures.answered in
    listing_refused _ (search rules) refused (number_is _) (rw c.number.ensures at c.write_refused.ensures)

pub returns-in-Ok : goal.returns-in-Ok
returns-in-Ok c =
    let done = rw c.in-Ok.is at c.list.ensures.answered in
    listing_done _ (search rules) done c.list.ensures.written refl (rw c.requires.live_value c.write_answer.ensures)
