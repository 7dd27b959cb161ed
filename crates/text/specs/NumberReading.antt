-- Why `read_number` reads right. The first byte tells a negative number from another; behind the sign stands a natural number, and two that begin
-- at one place with a stop behind them are the same.
use Rattle.std.specs.Prelude.{◌≡◌, Bool, false, not, length, get_or, ℤ, pos, negsuc, neg_ℤ}
use Rattle.std.proofs.Math.Path.{sym}
use Rattle.std.proofs.Common.{ap, ◌∙◌, add-one, length-append, length-drop, drop-cons}
use Rattle.std.proofs.Math.Bool.{true}
use mathlib.Core.List.{List, [], ◌∷◌, ◌++◌, append_assoc}
use Prim.Native.Nat.{ℕ, zero, suc, ◌+◌, ◌≤◌, ◌<◌}
use native.Mathlib.Omega.{arith}
use Rattle.std.proofs.Math.ListN.{drop}
use Rattle.theory.specs.Flags.{not_true, not_false}
use Rattle.text.specs.Decimal.{decimal, written}
use Rattle.text.specs.DecimalLaws.{low_stop, digits_stop, decimal_all_digits, decimal_one_to_one}
use Rattle.text.specs.OneToOne.{no_minus}
use Rattle.text.specs.Reading.{Stands, hits, misses, ReadsNatural, Size, ReadsSize, InRange, ReadsNumber, NoSign, Sign}

-- A natural number that was found is the one that is written there, and the same bytes follow.
pub natural_one : {text : List ℕ} {at next stop v : ℕ} → stop < 48 → Stands text at next (decimal v ++ (stop ∷ []))
    → (m : ℕ) (rest : List ℕ) → drop at text ≡ decimal m ++ (stop ∷ []) ++ rest → (m ≡ v) × (drop next text ≡ rest)
natural_one {text} {next = next} {stop} {v} low s m rest b =
    let e : decimal m ++ (stop ∷ rest) ≡ decimal v ++ (stop ∷ drop next text) =
    sym (append_assoc (decimal m) (stop ∷ []) rest) ∙ sym b ∙ s.bytes ∙ append_assoc (decimal v) (stop ∷ []) (drop next text) in
    let p = digits_stop (decimal_all_digits m) (decimal_all_digits v) (low_stop low) (low_stop low) e in
    let q = p.1 in
    (decimal_one_to_one m v p.0, cc)

-- The bytes from a place on: the first one, and those behind it.
first : (text : List ℕ) (at : ℕ) → at < length text → drop at text ≡ get_or text at 0 ∷ drop (at + 1) text
first text at inside = rw add-one (drop-cons text at 0 inside)

pub miss_end : {text : List ℕ} {at deepest greatest : ℕ} (stop : ℕ) → length text ≤ at → ReadsNumber text at stop deepest greatest false (pos 0) 0
miss_end stop l = misses (λ z rest a b. omega (arith, simp (length-append, length-drop) at (ap length b)))

-- A natural number within a range.
module _ {text : List ℕ} {at stop least greatest v next : ℕ} {ok : Bool} (natural : ReadsNatural text at stop ok v next) (low : stop < 48)
    (most : greatest ≤ 9999999999) where
  pub size_miss : not ok ≡ true → ReadsSize text at stop least greatest false 0 0
  size_miss n = misses (λ m rest a b. natural.missed (not_true ok n) m rest (omega arith) b)

  pub size_other : not ok ≡ false → (least ≤ v → v ≤ greatest → ⊥) → ReadsSize text at stop least greatest false 0 0
  size_other y n = misses (λ m rest a b.
      let e = (natural_one low (natural.found (not_false ok y)) m rest b).0 in
      n (omega arith) (omega arith))

  pub size_hit : not ok ≡ false → least ≤ v → v ≤ greatest → ReadsSize text at stop least greatest ok v next
  size_hit y l g = rw (not_false ok y) (hits (record { enough = l; most = g }) (natural.found (not_false ok y)))

-- No minus sign: only a number that is not negative can stand there.
module _ {text : List ℕ} {at stop greatest least most v next : ℕ} {ok : Bool} (p : NoSign text at stop greatest)
    (size : ReadsSize text at stop least most ok v next) (deepest : ℕ) where
  pub unsigned_miss : ((m : ℕ) → m ≤ greatest → Size least most m) → not ok ≡ true → ReadsNumber text at stop deepest greatest false (pos 0) 0
  unfolding written
  unsigned_miss each n = misses go
    where
      go : (z : ℤ) (rest : List ℕ) → InRange deepest greatest z → drop at text ≡ written z ++ (stop ∷ []) ++ rest → ⊥
      go (pos m) rest a b = size.missed (not_true ok n) m rest (each m a.upward) b
      go (negsuc m) rest a b =
          let b' : drop at text ≡ 45 ∷ (decimal (suc m) ++ (stop ∷ []) ++ rest) = b in
          let f = first text at p.inside in
          p.plain cc

  pub unsigned_hit : v ≤ greatest → not ok ≡ false → ReadsNumber text at stop deepest greatest true (pos v) next
  unfolding written
  unsigned_hit l y = hits (record { down = omega arith; upward = l }) (size.found (not_false ok y))

-- A minus sign: only a negative number.
module _ {text : List ℕ} {at stop deepest least most v next : ℕ} {ok : Bool} (p : Sign text at stop deepest)
    (size : ReadsSize text (at + 1) stop least most ok v next) (greatest : ℕ) where
  pub negative_miss : ((m : ℕ) → 1 ≤ m → m ≤ deepest → Size least most m) → not ok ≡ true → ReadsNumber text at stop deepest greatest false (pos 0) 0
  unfolding written
  negative_miss each n = misses go
    where
      go : (z : ℤ) (rest : List ℕ) → InRange deepest greatest z → drop at text ≡ written z ++ (stop ∷ []) ++ rest → ⊥
      go (pos m) rest a b =
          let f : drop at text ≡ 45 ∷ drop (at + 1) text = rw p.minus at (first text at p.inside) in
          no_minus m (stop ∷ rest) (drop (at + 1) text) (sym (append_assoc (decimal m) (stop ∷ []) rest) ∙ sym b ∙ f)
      go (negsuc m) rest a b =
          let b' : drop at text ≡ 45 ∷ (decimal (suc m) ++ (stop ∷ []) ++ rest) = b in
          let f = first text at p.inside in
          size.missed (not_true ok n) (suc m) rest (each (suc m) (omega arith) a.down) cc

  pub negative_hit : 1 ≤ v → v ≤ deepest → not ok ≡ false → ReadsNumber text at stop deepest greatest true (neg_ℤ (pos v)) next
  unfolding written
  negative_hit e l y = go v e l (size.found (not_false ok y))
    where
      go : (m : ℕ) → 1 ≤ m → m ≤ deepest → Stands text (at + 1) next (decimal m ++ (stop ∷ []))
          → ReadsNumber text at stop deepest greatest true (neg_ℤ (pos m)) next
      go zero e l s = absurd (omega arith)
      go (suc m) e l s = hits
          (record { down = l; upward = omega arith })
          (record { inside = s.inside; bytes = first text at p.inside ∙ rw (p.minus, s.bytes) })
