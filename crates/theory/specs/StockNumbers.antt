-- The numbers of a stock: those below n whose live byte is 1, as many as its shelf has slots.
use Rattle.std.specs.Prelude.{◌≡◌, true, List, ℕ, ◌≤◌, length}
use Rattle.std.proofs.Common.{◌∙◌, arith}
use Rattle.terms.specs.Tests.{rising}
use Rattle.terms.specs.Lent.{Stock}
use Rattle.terms.specs.Points.{below, belongs_to, slots_of}
use Rattle.terms.specs.Tree.{members, each_once}
use Rattle.theory.specs.Counting.{Same}
use Rattle.theory.specs.Keeping.{length_keep}
use Rattle.theory.specs.RisingNumbers.{members_few}
use Rattle.theory.specs.EachNumberOnce.{BelongBelow, each_length, shelf_rising}
use Rattle.theory.specs.LiveNumbers.{live_under, full_live}

module _ (s : Stock) where
  -- What belongs to a stock is below its n.
  pub stock_under : BelongBelow (belongs_to s) s.n
  stock_under = live_under s.n s.live

  -- As many numbers belong to it as its shelf has slots.
  pub stock_members : length (members (belongs_to s) s.n) ≡ slots_of s
  stock_members = length_keep (belongs_to s) (rising 0 s.n)

  -- They are no more than its numbers.
  pub stock_few : slots_of s ≤ s.n
  stock_few = omega (arith, stock_members, members_few (belongs_to s) s.n)

  -- A run that holds each number of the stock once has as many slots as the stock's shelf.
  pub stock_slots : (run : List ℕ) → each_once (belongs_to s) s.n run ≡ true → length run ≡ slots_of s
  stock_slots run e = each_length (belongs_to s) s.n stock_under run e ∙ stock_members

  -- Where v is n, a number belongs exactly if it is below n,
  pub stock_full : slots_of s ≡ s.n → belongs_to s ≡ below s.n
  stock_full = full_live s.n s.live

  -- and such a run holds the numbers below n.
  pub stock_rising : slots_of s ≡ s.n → {run : List ℕ} → each_once (belongs_to s) s.n run ≡ true → Same run (rising 0 s.n)
  stock_rising full e = shelf_rising s.n (rw (stock_full full) at e)
