-- Each group gives its refusal where it refuses; where it was passed the next one does.
use Rattle.std.proofs.Common.{refl}
use Rattle.terms.specs.RefusalNumbers.{number_is, handed_on}
use Rattle.theory.specs.FirstRefusal.{no_zero}
use Rattle.hornherder.specs.ArrangeOutcome.{arrange_tested}
use Rattle.hornherder.specs.First.{first_stops, first_after}
use Rattle.hornherder.proofs.screen.test_screen.Goals as goal

pub returns-in_err-shaped-clause-first : goal.returns-in_err-shaped-clause-first
unfolding no_zero
returns-in_err-shaped-clause-first c = rw (handed_on _ c.from_residual.ensures) (first_stops _ c.in_err-shaped.ensures.first (number_is _))

pub returns-in_err-test_faces-clause-first : goal.returns-in_err-test_faces-clause-first
unfolding no_zero
returns-in_err-test_faces-clause-first c = rw (handed_on _ c.from_residual-in_err-test_faces.ensures) (first_after refl c.in_ok-shaped.ensures.first (first_stops _ c.in_err-test_faces.ensures (number_is _)))

pub returns-clause-first : goal.returns-clause-first
unfolding no_zero
returns-clause-first c = first_after refl c.in_ok-shaped.ensures.first (first_after refl c.in_ok-test_faces.ensures (rw (c.in_ok-shaped.ensures.same) at c.test_tree.ensures.first))

pub test_tree-requires : goal.test_tree-requires
test_tree-requires c = let passed = arrange_tested _ _ c.in_ok-shaped.ensures.first refl in record {
  tested_points = rw (c.in_ok-shaped.ensures.same) passed.tested;
  slots_in_bounds = rw (c.in_ok-shaped.shaped.counted, c.in_ok-shaped.ensures.same) passed.room;
}

pub returns-clause-slots : goal.returns-clause-slots
returns-clause-slots c = rw (c.in_ok-shaped.ensures.same) at c.test_tree.ensures.slots
