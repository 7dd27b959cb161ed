-- What reading promises decides: 10 is printed, or the answer for the numbers that the text says. They are within the buffers.
use Rattle.std.proofs.Common.{refl, rules}
use Rattle.shelf.specs.Answering.{sizes, ones_live, answer_shelved}
use Rattle.shelf.proofs.answer.answer.Goals as goal

pub arrange_shelf-requires : goal.arrange_shelf-requires
arrange_shelf-requires c =
    let few = (sizes c.in-Some.ensures refl).points in
    record { n_bound = few; live_value = ones_live _ few; in_bounds = search rules }

pub returns : goal.returns
returns c = answer_shelved c.in-Some.ensures refl c.arrange_shelf.ensures
