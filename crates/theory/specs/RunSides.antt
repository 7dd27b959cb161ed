-- On which side of a run's node a place stands: it is the node's, or one of a branch.
use Rattle.std.specs.Prelude.{◌≡◌, List, ℕ, ◌+◌, ◌-◌, ◌<◌, length, get_or}
use Rattle.std.proofs.Common.{sym, ap, ◌∙◌, arith}
use Rattle.std.proofs.Math.Decide.{dec_lt}
use Rattle.terms.specs.Run.{middle, node, lefts, rights}
use Rattle.theory.specs.RunParts.{left_length, right_length, left_at, right_at}

-- Place i of a run, with the number p in it.
pub data Side (run : List ℕ) (i p : ℕ) : Type 0 where
  at_node : i ≡ middle (length run) → p ≡ node run → Side run i p
  on_left : i < middle (length run) → i < length (lefts run) → get_or (lefts run) i 0 ≡ p → Side run i p
  on_right : middle (length run) < i → i - (middle (length run) + 1) < length (rights run) → get_or (rights run) (i - (middle (length run) + 1)) 0 ≡ p → Side run i p

pub side : (run : List ℕ) (i p : ℕ) → i < length run → get_or run i 0 ≡ p → Side run i p
side run i p l e = go (dec_lt i (middle (length run))) (dec_lt (middle (length run)) i)
  where
    go : Dec (i < middle (length run)) → Dec (middle (length run) < i) → Side run i p
    go (yes m) d = let n : i < length (lefts run) = omega (arith, left_length run) in on_left m n (left_at run i n ∙ e)
    go (no n) (yes m) =
        let q : middle (length run) + 1 + (i - (middle (length run) + 1)) ≡ i = omega arith in
        on_right m (omega (arith, right_length run)) (right_at run (i - (middle (length run) + 1)) ∙ ap (λ (c : ℕ). get_or run c 0) q ∙ e)
    go (no n) (no m) =
        let q : i ≡ middle (length run) = omega arith in
        at_node q (sym e ∙ ap (λ (c : ℕ). get_or run c 0) q)
