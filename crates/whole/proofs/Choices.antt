-- Two orders of the whole numbers, each with the choice of that of two numbers which comes first in it: the lesser, and the greater.
use Rattle.std.specs.Prelude.{◌≤ℤ◌}
use Rattle.whole.specs.Order.{lesser, greater}
use Rattle.whole.proofs.Order.{le_trans, le_antisym, lesser_le_left, lesser_le_right, le_lesser}
use Rattle.whole.proofs.Order.{le_greater_left, le_greater_right, greater_le}
use Rattle.whole.specs.Choices.{AtLeast, Choice}

-- The lesser of two, and the greater.
pub least_choice : Choice ◌≤ℤ◌ lesser
least_choice = record { trans = le_trans; left = lesser_le_left; right = lesser_le_right; both = le_lesser; antisym = le_antisym }

pub greatest_choice : Choice AtLeast greater
greatest_choice = record { trans = λ h k. le_trans k h; left = le_greater_left; right = le_greater_right; both = greater_le; antisym = λ h k. le_antisym k h }
