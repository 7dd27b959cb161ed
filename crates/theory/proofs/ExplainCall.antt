-- The explain call's reason: where the call is done its number stands in a slot, and has the computed reason and no other.
use Rattle.std.specs.Prelude.{◌≡◌, true}
use Prim.Native.Nat.{ℕ}
use Rattle.terms.specs.declared.Reason.{Reason}
use Rattle.terms.specs.Lent.{Stock, Order, Faces}
use Rattle.terms.specs.Points.{point_of, belongs_to}
use Rattle.terms.specs.Tree.{is_tree, shelf_run}
use Rattle.terms.specs.Region.{Region, region}
use Rattle.terms.specs.Reason.{InRun, ReasonFor}
use Rattle.terms.specs.Explain.{reason_of}
use Rattle.theory.specs.StockNumbers.{stock_under}
use Rattle.theory.proofs.Reasons.{tree_run_lem, number_stands, reason_true, because_only}
use Rattle.theory.specs.ExplainCall.{ExplainPassed}

module _ (s : Stock) (o : Order) (f : Faces) (p : ℕ) where
  module _ (w : ExplainPassed s o f p) where
    abbrev g : Region
    g = region s.k f

    shelf : is_tree g.k (point_of s) (belongs_to s) s.n (shelf_run s o) ≡ true
    shelf = w.screened.shelf

    -- Every picture of an accepted call stands in a slot,
    pub picture_stands : InRun (shelf_run s o) p
    picture_stands = number_stands g (point_of s) (belongs_to s) s.n (shelf_run s o) shelf p (stock_under s p w.belongs) w.belongs

    -- and has a reason, which is the one that is computed,
    pub picture_reason : ReasonFor g (point_of s) (shelf_run s o) p (reason_of g (point_of s) (shelf_run s o) p)
    picture_reason = reason_true g (point_of s) (shelf_run s o) (tree_run_lem g (point_of s) (belongs_to s) s.n (shelf_run s o) shelf) picture_stands.1

    -- and no other.
    pub picture_reason_only : (why : Reason) → ReasonFor g (point_of s) (shelf_run s o) p why → why ≡ reason_of g (point_of s) (shelf_run s o) p
    picture_reason_only why z = because_only g (point_of s) (shelf_run s o) (tree_run_lem g (point_of s) (belongs_to s) s.n (shelf_run s o) shelf) z.stands why z.because
