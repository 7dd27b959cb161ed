-- A sum of products, one product after another.
use Rattle.std.specs.Prelude.{◌≡◌, ℕ, ◌+◌, ℤ, ◌+ℤ◌}
use Rattle.std.proofs.Common.{ap, ◌∙◌}
use Rattle.whole.specs.IndexedSum.{sum_to}
use Rattle.whole.proofs.IndexedSum.{sum_next}

-- The sum of the first d terms with the term at d is that of the first d + 1.
pub sum_with : (d : ℕ) (total : ℤ) (p : ℕ → ℤ) → total ≡ sum_to d p → total +ℤ p d ≡ sum_to (d + 1) p
sum_with d total p e = ap (λ (z : ℤ). z +ℤ p d) e ∙ sum_next d p
