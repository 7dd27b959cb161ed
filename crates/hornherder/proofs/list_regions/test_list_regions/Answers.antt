-- Each group gives its refusal where it refuses; where it was passed the next one does.
use Rattle.std.proofs.Common.{refl, arith}
use Rattle.terms.specs.RefusalNumbers.{number_is, handed_on}
use Rattle.theory.specs.FirstRefusal.{no_zero}
use Rattle.terms.specs.LentValues.{stock_of}
use Rattle.terms.specs.Refusals.{room_refusals}
use Rattle.theory.specs.FirstRefusal.{passed_parts}
use Rattle.theory.specs.StockNumbers.{stock_few}
use Rattle.theory.specs.RefusalsPassed.{stock_passed, room_passed, region_count_passed}
use Rattle.hornherder.specs.First.{first_stops, first_passed, first_after}
use Rattle.hornherder.proofs.list_regions.test_list_regions.Goals as goal

pub returns-in_err-shaped-clause-first : goal.returns-in_err-shaped-clause-first
unfolding no_zero
returns-in_err-shaped-clause-first c = rw (handed_on _ c.from_residual.ensures) (first_stops _ c.in_err-shaped.ensures.first (number_is _))

pub returns-in_err-test_region_count-clause-first : goal.returns-in_err-test_region_count-clause-first
unfolding no_zero
returns-in_err-test_region_count-clause-first c = rw (handed_on _ c.from_residual-in_err-test_region_count.ensures) (first_after refl c.in_ok-shaped.ensures.first (first_stops _ c.in_err-test_region_count.ensures (number_is _)))

pub returns-in_err-test_region_room-clause-first : goal.returns-in_err-test_region_room-clause-first
unfolding no_zero
returns-in_err-test_region_room-clause-first c = rw (handed_on _ c.from_residual-in_err-test_region_room.ensures) (first_after refl c.in_ok-shaped.ensures.first (first_after refl c.in_ok-test_region_count.ensures (first_stops _ (rw (c.in_ok-shaped.shaped.counted, c.in_ok-shaped.ensures.same) at c.in_err-test_region_room.ensures) (number_is _))))

pub returns-in_err-test_live_coordinates-clause-first : goal.returns-in_err-test_live_coordinates-clause-first
unfolding no_zero
returns-in_err-test_live_coordinates-clause-first c = rw (handed_on _ c.from_residual-in_err-test_live_coordinates.ensures) (first_after refl c.in_ok-shaped.ensures.first (first_after refl c.in_ok-test_region_count.ensures (first_after refl (rw (c.in_ok-shaped.shaped.counted, c.in_ok-shaped.ensures.same) at c.in_ok-test_region_room.ensures) (first_stops _ (rw (c.in_ok-shaped.ensures.same) at c.in_err-test_live_coordinates.ensures) (number_is _)))))

pub returns-in_err-test_region_faces-clause-first : goal.returns-in_err-test_region_faces-clause-first
unfolding no_zero
returns-in_err-test_region_faces-clause-first c = rw (handed_on _ c.from_residual-in_err-test_region_faces.ensures) (first_after refl c.in_ok-shaped.ensures.first (first_after refl c.in_ok-test_region_count.ensures (first_after refl (rw (c.in_ok-shaped.shaped.counted, c.in_ok-shaped.ensures.same) at c.in_ok-test_region_room.ensures) (first_after refl (rw (c.in_ok-shaped.ensures.same) at c.in_ok-test_live_coordinates.ensures) (first_stops _ c.in_err-test_region_faces.ensures (number_is _))))))

pub returns-clause-first : goal.returns-clause-first
unfolding no_zero
returns-clause-first c = first_after refl c.in_ok-shaped.ensures.first (first_after refl c.in_ok-test_region_count.ensures (first_after refl (rw (c.in_ok-shaped.shaped.counted, c.in_ok-shaped.ensures.same) at c.in_ok-test_region_room.ensures) (first_after refl (rw (c.in_ok-shaped.ensures.same) at c.in_ok-test_live_coordinates.ensures) (first_after refl c.in_ok-test_region_faces.ensures (rw (c.in_ok-shaped.ensures.same) at c.test_tree.ensures.first)))))

pub test_tree-requires : goal.test_tree-requires
unfolding no_zero
test_tree-requires c = record {
  tested_points = rw (c.in_ok-shaped.ensures.same) (stock_passed _ (first_passed refl c.in_ok-shaped.ensures.first refl) (first_passed refl (rw (c.in_ok-shaped.ensures.same) at c.in_ok-test_live_coordinates.ensures) refl));
  slots_in_bounds = room_passed _ _ (passed_parts (room_refusals _ _) _ (first_passed refl c.in_ok-test_region_room.ensures refl)).0;
}

pub returns-clause-slots : goal.returns-clause-slots
returns-clause-slots c = rw (c.in_ok-shaped.ensures.same) at c.test_tree.ensures.slots

pub test_region_room-requires : goal.test_region_room-requires
unfolding no_zero
test_region_room-requires c = let s = c.in_ok-shaped.shaped in record {
  slots_bound = omega (arith, s.counted, stock_few (stock_of s.stock), s.lent.many);
  regions_bound = (region_count_passed _ _ (first_passed refl c.in_ok-test_region_count.ensures refl)).most;
}

pub test_region_faces-requires : goal.test_region_faces-requires
unfolding no_zero
test_region_faces-requires c = region_count_passed _ _ (first_passed refl c.in_ok-test_region_count.ensures refl)
