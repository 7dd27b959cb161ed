-- The two visit bounds, said of the visits that the list call answers, for any arguments: a refusal answers 0, and a call that is done has
-- found a tree and answers the defined count.
use Rattle.std.specs.Prelude.{◌≡◌, List}
use Rattle.std.proofs.Math.Path.{refl}
use Rattle.std.proofs.Common.{◌∙◌, arith}
use Rattle.std.proofs.Math.Bool.{true}
use Prim.Native.Nat.{ℕ, zero, suc, ◌*◌, ◌≤◌, ◌<◌}
use Rattle.std.proofs.Math.ListN.{length}
use Rattle.std.proofs.Math.Seq.{length-take-le}
use Rattle.whole.specs.IndexedTotal.{total_to}
use Rattle.whole.proofs.IndexedTotal.{total_same}
use Rattle.terms.specs.Lent.{Stock, Order, Faces}
use Rattle.terms.specs.Points.{point_of, belongs_to, slots_of}
use Rattle.terms.specs.Tree.{tree_run, each_once, is_tree, shelf_run}
use Rattle.terms.specs.Region.{region, alone}
use Rattle.terms.specs.Visits.{visits}
use Rattle.terms.specs.Bound.{S, is_square}
use Rattle.terms.specs.ListCall.{list_code, list_answer}
use Rattle.theory.specs.Flags.{and_true}
use Rattle.theory.specs.ListCall.{list_passed}
use Rattle.theory.specs.SumBound.{visits_le_faces}
use Rattle.theory.proofs.SquareBound.{square_visits_le_S}
use Rattle.theory.specs.FaceLentAlone.{face_alone, lent_visits, lent_done}

-- Done, the call answers the defined count.
pub done_visits : (s : Stock) (o : Order) (f : Faces) (list : List ℕ) → list_code s o f list ≡ 0
    → (list_answer s o f list).visits ≡ visits (region s.k f) (point_of s) (shelf_run s o)
unfolding list_answer
done_visits s o f list e = rw e

module _ (s : Stock) (o : Order) (f : Faces) (list : List ℕ) where
  -- A bound of the visits need be proved only where the call is done: refused, they are 0.
  visits_le_if_done : (B : ℕ) → (list_code s o f list ≡ 0 → visits (region s.k f) (point_of s) (shelf_run s o) ≤ B) → (list_answer s o f list).visits ≤ B
  unfolding list_answer
  visits_le_if_done B bound = go (list_code s o f list) refl
    where
      go : (c : ℕ) → list_code s o f list ≡ c → (list_answer s o f list).visits ≤ B
      go zero e = rw e (bound e)
      go (suc c) e = rw e (omega arith)

  -- "For any region, square or not, visits are at most the sum of the visits of each face taken as a region alone."
  pub list_visits_le_faces : (list_answer s o f list).visits ≤ total_to f.h (λ i. (list_answer s o (face_alone s.k f i) list).visits)
  list_visits_le_faces = visits_le_if_done _ (λ e.
      omega (
        arith,
        visits_le_faces (region s.k f) (point_of s) (shelf_run s o),
        total_same f.h
            (λ i. (list_answer s o (face_alone s.k f i) list).visits)
            (λ i. visits (alone (region s.k f) i) (point_of s) (shelf_run s o))
            (λ i l. done_visits s o (face_alone s.k f i) list (lent_done s o f list e i l) ∙ lent_visits s.k f i (point_of s) (shelf_run s o)),
      ))

  -- "Where all faces are square, visits are at most h times S(n, k)."
  pub list_visits_le_S : ((i : ℕ) → i < f.h → is_square (region s.k f) i ≡ true) → (list_answer s o f list).visits ≤ f.h * S (slots_of s) s.k
  unfolding is_tree
  list_visits_le_S square = visits_le_if_done _ (λ e.
      let p = list_passed s o f list e in
      let slots : length (shelf_run s o) ≡ slots_of s = length-take-le (slots_of s) o.slots p.room in
      let tree : tree_run (length (shelf_run s o)) s.k (point_of s) 0 (shelf_run s o) ≡ true =
      (and_true (each_once (belongs_to s) s.n (shelf_run s o)) p.shelf).1 in
      rw slots at (square_visits_le_S (region s.k f) (point_of s) (shelf_run s o) p.tested.some tree square))
