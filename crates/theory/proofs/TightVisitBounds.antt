-- The visits by tight boxes are never more than those by branch boxes, so that both bounds hold of them too.
use Rattle.std.specs.Prelude.{◌≡◌, true, List, ℕ, ◌*◌, ◌≤◌, ◌<◌, length, ℤ}
use Rattle.std.proofs.Common.{arith}
use Rattle.whole.specs.IndexedTotal.{total_to}
use Rattle.terms.specs.Tree.{tree_run}
use Rattle.terms.specs.Region.{Region, alone}
use Rattle.terms.specs.Visits.{visits, tight_visits}
use Rattle.terms.specs.Bound.{S, is_square}
use Rattle.theory.specs.SumBound.{visits_le_faces}
use Rattle.theory.proofs.SquareBound.{square_visits_le_S}
use Rattle.theory.proofs.TightVisits.{tight_visits_le}

module _ (g : Region) (at : ℕ → ℕ → ℤ) (run : List ℕ) (tree : tree_run (length run) g.k at 0 run ≡ true) where
  -- "So demand 3's bounds hold too": the sum over the faces of the visits by branch boxes, and h times S where all faces are square.
  pub tight_visits_le_branch_faces : tight_visits g at run ≤ total_to g.h (λ i. visits (alone g i) at run)
  tight_visits_le_branch_faces = omega (arith, tight_visits_le g at run tree, visits_le_faces g at run)

  pub tight_visits_le_S : 0 < g.k → ((i : ℕ) → i < g.h → is_square g i ≡ true) → tight_visits g at run ≤ g.h * S (length run) g.k
  tight_visits_le_S some square = omega (arith, tight_visits_le g at run tree, square_visits_le_S g at run some tree square)
