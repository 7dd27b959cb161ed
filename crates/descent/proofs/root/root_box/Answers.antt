-- As many slots as numbers: the box of the numbers is that of the slots. Else it is taken over the slots themselves.
use native.Mathlib.Omega.{arith}
use Rattle.descent.specs.Root.{shelved_known, full_known, full_boxed}
use Rattle.descent.proofs.root.root_box.Goals as goal

pub numbers_box-requires : goal.numbers_box-requires
numbers_box-requires c = full_known c.requires (omega (arith, c.if-order-n.true))

pub returns-then-order-n : goal.returns-then-order-n
returns-then-order-n c = full_boxed c.requires (omega (arith, c.if-order-n.true)) c.numbers_box.ensures

pub slots_box-requires : goal.slots_box-requires
slots_box-requires c = let w = c.requires in record {
  k_bound = w.tested.few;
  known = shelved_known w;
}
