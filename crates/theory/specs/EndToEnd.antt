-- Lists end to end, each of c items: how long they are together, what stands in the part of each, and what stands behind them.
use Rattle.std.specs.Prelude.{◌≡◌, List, ◌++◌, length, drop}
use Rattle.std.proofs.Common.{append_assoc, not-suc-le-zero, take_at, drop_at}
use Prim.Native.Nat.{ℕ, zero, suc, ◌*◌, ◌<◌}
use Rattle.std.proofs.Math.Nat.{suc-mul}
use native.Mathlib.Omega.{arith}
use Rattle.std.proofs.Math.ListN.{length-append}
use Rattle.whole.proofs.IndexedTotal.{below_suc}
use Rattle.terms.specs.EndToEnd.{end_to_end, part}

module _ {A : Type 0} (c : ℕ) (each : ℕ → List A) (size : (i : ℕ) → length (each i) ≡ c) where
  pub ends_length : (r : ℕ) → length (end_to_end r each) ≡ r * c
  unfolding end_to_end
  ends_length zero = omega arith
  ends_length (suc r) = omega (arith, length-append (end_to_end r each) (each r), ends_length r, size r, suc-mul r c)

  -- In the part of each number stands what it gives.
  pub ends_part : (r : ℕ) (later : List A) (i : ℕ) → i < r → part (i * c) c (end_to_end r each ++ later) ≡ each i
  unfolding end_to_end
  ends_part zero later i l = absurd (not-suc-le-zero l)
  ends_part (suc r) later i l =
      let own : part (r * c) c (end_to_end r each ++ (each r ++ later)) ≡ each r =
      rw (drop_at (end_to_end r each) (each r ++ later) (r * c) (ends_length r)) (take_at (each r) later c (size r)) in
      rw (append_assoc (end_to_end r each) (each r) later)
      (below_suc (λ j. part (j * c) c (end_to_end r each ++ (each r ++ later)) ≡ each j) r (ends_part r (each r ++ later)) own i l)

  pub ends_later : (r : ℕ) (later : List A) → drop (r * c) (end_to_end r each ++ later) ≡ later
  ends_later r later = drop_at (end_to_end r each) later (r * c) (ends_length r)
