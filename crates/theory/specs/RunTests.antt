-- A test that every number of a run passes: the left branch, the node and the right branch pass it. Both say that no number fails.
use Rattle.std.specs.Prelude.{◌≡◌, refl, Bool, true, false, not, List, ◌∷◌, ℕ}
use Rattle.std.proofs.Common.{arith}
use Rattle.terms.specs.Tests.{bit, every}
use Rattle.terms.specs.Run.{node, lefts, rights}
use Rattle.theory.specs.Counting.{every_count, count_every}
use Rattle.theory.specs.RunParts.{count_run}

-- The three parts of a run pass.
pub record EveryPart (test : ℕ → Bool) (run : List ℕ) : Type 0 where
  pub left : every test (lefts run) ≡ true
  pub middle : test (node run) ≡ true
  pub right : every test (rights run) ≡ true

pub every_part : (test : ℕ → Bool) (x : ℕ) (xs : List ℕ) → every test (x ∷ xs) ≡ true → EveryPart test (x ∷ xs)
every_part test x xs e =
    let run : List ℕ = x ∷ xs in
    let c = count_run (λ p. not (test p)) x xs in
    let z = every_count test run e in
    record {
      left = count_every test (lefts run) (omega arith);
      middle = passes (test (node run)) (omega arith);
      right = count_every test (rights run) (omega arith);
    }
  where
    passes : (t : Bool) → bit (not t) ≡ 0 → t ≡ true
    passes true b = refl
    passes false b = absurd (omega arith)

pub part_every : (test : ℕ → Bool) (x : ℕ) (xs : List ℕ) → EveryPart test (x ∷ xs) → every test (x ∷ xs) ≡ true
part_every test x xs w =
    let run : List ℕ = x ∷ xs in
    let b : bit (not (test (node run))) ≡ 0 = rw w.middle in
    count_every test run (omega (
      arith,
      count_run (λ p. not (test p)) x xs,
      every_count test (lefts run) w.left,
      every_count test (rights run) w.right,
    ))
