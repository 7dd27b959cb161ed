-- The shelf of a tested stock can be summarised: each of its slots holds the number of a point, and there are no more slots than numbers.
use Rattle.std.specs.Prelude.{◌≡◌, true, List, ℕ, ◌+◌, ◌*◌, length, ℤ}
use Rattle.std.proofs.Common.{arith}
use Rattle.terms.specs.Lent.{Stock, stock}
use Rattle.terms.specs.Points.{belongs_to}
use Rattle.terms.specs.Tree.{each_once, is_tree}
use Rattle.theory.specs.Flags.{and_true}
use Rattle.theory.specs.StockNumbers.{stock_few, stock_slots}
use Rattle.descent.specs.Root.{Shelved, shelved_known}
use Rattle.summary.specs.Shares.{Summarisable}

pub shelf_summarisable : {k n : ℕ} {points : List ℤ} {order : List ℕ} {m : ℕ} → Shelved k n points order → m ≡ length order * (k + k)
    → Summarisable k points order m
unfolding is_tree
shelf_summarisable {k} {n} {points} {order} w size =
    let lent : Stock = stock k n points w.live in
    let once : each_once (belongs_to lent) n order ≡ true = (and_true (each_once (belongs_to lent) n order) w.shelf).0 in
    record {
      few = w.tested.few;
      many = omega (arith, stock_slots lent order once, stock_few lent, w.tested.many);
      known = shelved_known w;
      size = size;
    }
