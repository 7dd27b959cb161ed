-- The visits by tight boxes are never more than those by branch boxes.
use Rattle.std.specs.Prelude.{◌≡◌, true, List, ℕ, ◌≤◌, length, ℤ}
use Rattle.std.proofs.Common.{arith}
use Rattle.terms.specs.Tree.{tree_run}
use Rattle.terms.specs.Region.{Region}
use Rattle.terms.specs.Visits.{visits, tight_visits}
use Rattle.theory.specs.BoxFuel.{visits_count}
use Rattle.theory.proofs.TightWithinBranch.{count_nested, shelf_nested}
use Rattle.theory.specs.TightVisits.{tight_visits_count}

module _ (g : Region) (at : ℕ → ℕ → ℤ) (run : List ℕ) (tree : tree_run (length run) g.k at 0 run ≡ true) where
  -- They "are proved never to be more than the first's".
  pub tight_visits_le : tight_visits g at run ≤ visits g at run
  tight_visits_le = omega (arith, tight_visits_count g at run, visits_count g at run, count_nested g (shelf_nested at run g.k tree))
