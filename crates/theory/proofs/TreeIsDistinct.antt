-- A tree holds no number twice, so slots that are a tree and hold only numbers that belong hold each of them once.
use Rattle.std.specs.Prelude.{◌≡◌, Bool, ◌&&◌, List, ℕ, ◌≤◌, length, ℤ}
use Rattle.std.proofs.Common.{sym, ◌∙◌, length-take-le}
use Rattle.terms.specs.Tests.{every}
use Rattle.terms.specs.Lent.{Stock, Order}
use Rattle.terms.specs.Points.{point_of, belongs_to, slots_of}
use Rattle.terms.specs.Tree.{members, tree_run, each_once, is_tree, shelf_run, is_shelf}
use Rattle.theory.specs.Flags.{same_test, and_true, true_and}
use Rattle.theory.specs.Counting.{at_every}
use Rattle.theory.specs.EachNumberOnce.{BelongBelow, each_once_lem}
use Rattle.theory.proofs.EachNumberOnce.{distinct_each}
use Rattle.theory.specs.StockNumbers.{stock_under, stock_members}
use Rattle.theory.specs.TreeIsDistinct.{tree_distinct}

-- Of as many slots as numbers belong it is asked only that their numbers belong and that they are a tree.
pub tree_test : (k : ℕ) (at : ℕ → ℕ → ℤ) (belongs : ℕ → Bool) (m : ℕ) (run : List ℕ) → BelongBelow belongs m → length run ≡ length (members belongs m)
    → is_tree k at belongs m run ≡ every belongs run && tree_run (length run) k at 0 run
unfolding is_tree
tree_test k at belongs m run under size = same_test
    (λ e.
    let p = and_true (each_once belongs m run) e in
    true_and (at_every belongs 0 run (each_once_lem belongs m p.0).belong) p.1)
    (λ e.
    let p = and_true (every belongs run) e in
    true_and (distinct_each belongs m under size p.0 (tree_distinct (length run) k at 0 run p.1)) p.1)

-- "A check says yes (0) exactly for that order": of v slots it is asked that their numbers belong and that they are a tree.
pub shelf_test : (s : Stock) (o : Order) → slots_of s ≤ length o.slots
    → is_shelf s o ≡ every (belongs_to s) (shelf_run s o) && tree_run (slots_of s) s.k (point_of s) 0 (shelf_run s o)
shelf_test s o room =
    let size : length (shelf_run s o) ≡ slots_of s = length-take-le (slots_of s) o.slots room in
    tree_test s.k (point_of s) (belongs_to s) s.n (shelf_run s o) (stock_under s) (size ∙ sym (stock_members s)) ∙ rw size
