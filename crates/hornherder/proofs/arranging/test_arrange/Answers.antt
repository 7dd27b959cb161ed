-- Each group gives its refusal where it refuses; where it was passed the next one does.
use Rattle.std.proofs.Common.{refl}
use Rattle.terms.specs.RefusalNumbers.{number_is, handed_on}
use Rattle.theory.specs.FirstRefusal.{no_zero}
use Rattle.hornherder.specs.First.{first_stops, first_after}
use Rattle.hornherder.proofs.arranging.test_arrange.Goals as goal

pub returns-in_err-shaped-clause-first : goal.returns-in_err-shaped-clause-first
unfolding no_zero
returns-in_err-shaped-clause-first c = rw (handed_on _ c.from_residual.ensures) (first_stops _ c.in_err-shaped.ensures.first (number_is _))

pub returns-in_err-test_room-clause-first : goal.returns-in_err-test_room-clause-first
unfolding no_zero
returns-in_err-test_room-clause-first c = rw (handed_on _ c.from_residual-in_err-test_room.ensures) (first_after refl c.in_ok-shaped.ensures.first (first_stops _ (rw (c.in_ok-shaped.shaped.counted, c.in_ok-shaped.ensures.same) at c.in_err-test_room.ensures) (number_is _)))

pub returns-in_err-test_live_coordinates-clause-first : goal.returns-in_err-test_live_coordinates-clause-first
unfolding no_zero
returns-in_err-test_live_coordinates-clause-first c = rw (handed_on _ c.from_residual-in_err-test_live_coordinates.ensures) (first_after refl c.in_ok-shaped.ensures.first (first_after refl (rw (c.in_ok-shaped.shaped.counted, c.in_ok-shaped.ensures.same) at c.in_ok-test_room.ensures) (first_stops _ (rw (c.in_ok-shaped.ensures.same) at c.in_err-test_live_coordinates.ensures) (number_is _))))

pub returns-clause-first : goal.returns-clause-first
unfolding no_zero
returns-clause-first c = first_after refl c.in_ok-shaped.ensures.first (first_after refl (rw (c.in_ok-shaped.shaped.counted, c.in_ok-shaped.ensures.same) at c.in_ok-test_room.ensures) (rw (c.in_ok-shaped.ensures.same) at c.in_ok-test_live_coordinates.ensures))
