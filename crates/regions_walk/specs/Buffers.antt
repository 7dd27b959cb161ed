-- A buffer that is filled region after region: c places for each of the first r regions, and behind them what was lent.
use Rattle.std.specs.Prelude.{◌≡◌, refl, List, ◌++◌, length}
use Rattle.std.proofs.Common.{sym, append_assoc, arith, length-append, length-drop, take_at}
use Prim.Native.Nat.{ℕ, suc, ◌+◌, ◌*◌, ◌≤◌}
use Rattle.std.proofs.Math.Nat.{suc-mul}
use Rattle.std.proofs.Math.Numerals.{add-one}
use Rattle.std.proofs.Math.ListN.{take, drop}
use Rattle.std.proofs.Math.Seq.{drop-drop}
use Rattle.terms.specs.EndToEnd.{end_to_end}
use Rattle.theory.specs.EndToEnd.{ends_length, ends_later}

-- The first r regions have their places, and the later ones are as they were.
pub record FilledTo (each : ℕ → List ℕ) (c r : ℕ) (buffer after : List ℕ) : Type 0 where
  pub filled : after ≡ end_to_end r each ++ drop (r * c) buffer

pub filled_none : (each : ℕ → List ℕ) (c : ℕ) (buffer : List ℕ) → FilledTo each c 0 buffer buffer
unfolding end_to_end
filled_none each c buffer = let none : 0 * c ≡ 0 = omega arith in record { filled = rw none refl }

module _ {each : ℕ → List ℕ} {c r : ℕ} {buffer after : List ℕ} (sizes : (i : ℕ) → length (each i) ≡ c) (f : FilledTo each c r buffer after) where
  pub filled_length : r * c ≤ length buffer → length after ≡ length buffer
  filled_length l = rw f.filled (omega (arith, length-append (end_to_end r each) (drop (r * c) buffer), ends_length c each sizes r, length-drop (r * c) buffer))

  -- The next region's places are lent and come back with what it gives.
  pub filled_next : {own : List ℕ} {at size : ℕ} → at ≡ r * c → size ≡ c → own ≡ each r
      → FilledTo each c (r + 1) buffer (take at after ++ (own ++ drop size (drop at after)))
  unfolding end_to_end
  filled_next starts many e =
      let front : take (r * c) after ≡ end_to_end r each =
      rw f.filled (take_at (end_to_end r each) (drop (r * c) buffer) (r * c) (ends_length c each sizes r)) in
      let behind : drop (r * c) after ≡ drop (r * c) buffer = rw f.filled (ends_later c each sizes r (drop (r * c) buffer)) in
      let next : r * c + c ≡ suc r * c = omega (arith, suc-mul r c) in
      record {
        filled = rw
            (starts, many, front, behind, e, drop-drop c (r * c) buffer, next, add-one r)
            (sym (append_assoc (end_to_end r each) (each r) (drop (suc r * c) buffer)));
      }
