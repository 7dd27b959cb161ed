-- Each group gives its refusal where it refuses; where it was passed the next one does.
use Rattle.std.proofs.Common.{refl}
use Rattle.terms.specs.RefusalNumbers.{number_is, handed_on}
use Rattle.theory.specs.FirstRefusal.{no_zero}
use Rattle.hornherder.specs.First.{first_stops, first_after}
use Rattle.hornherder.proofs.list_regions.test_region_room.Goals as goal

pub returns-in_err-test_room : goal.returns-in_err-test_room
returns-in_err-test_room c = rw (handed_on _ c.from_residual.ensures) (first_stops _ c.in_err-test_room.ensures (number_is _))

pub returns-in_err-test_room-2 : goal.returns-in_err-test_room-2
unfolding no_zero
returns-in_err-test_room-2 c =
    rw (handed_on _ c.from_residual-in_err-test_room-2.ensures) (first_after refl c.in_ok-test_room.ensures (first_stops _ c.in_err-test_room-2.ensures (number_is _)))

pub returns : goal.returns
unfolding no_zero
returns c = first_after refl c.in_ok-test_room.ensures (first_after refl c.in_ok-test_room-2.ensures c.test_room-3.ensures)
