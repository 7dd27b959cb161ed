-- The key of a number on a dimension, and the one law by which `before` is `<` on keys. From there on proofs speak of unsigned numbers:
-- a coordinate is lifted above 0, so that its order is theirs, and the number fills the lower half of the key and decides where coordinates are equal.
use Rattle.std.specs.Prelude.{◌≡◌, refl, Bool, true, false, ◌&&◌, ◌||◌, List, ℕ, ◌+◌, ◌*◌, ◌%◌, ◌^◌, ◌<◌, length, ℤ, pos, negsuc, nat_abs, ◌+ℤ◌, ◌≤ℤ◌, T, ltb}
use Rattle.std.proofs.Common.{sym, arith, lt-ltb, le-ltb, ltb-true, SFits, to_z, of_z, to_z-of_z}
use Rattle.std.specs.Int.Signed.{lt_z, le_z, non_neg}
use Rattle.std.specs.Int.{w32}
use Rattle.whole.specs.Parts.{up, dn}
use Rattle.whole.proofs.Parts.{ints, flags, sum_parts, abs_parts}
use Rattle.whole.proofs.Fits.{sfits_abs}
use Rattle.terms.specs.Lent.{Stock}
use Rattle.terms.specs.Points.{coord, belongs_to}
use Rattle.terms.specs.Before.{before}
use Rattle.theory.specs.Flags.{same_test}
use Rattle.theory.specs.StockNumbers.{stock_under}
use Rattle.theory.specs.Tested.{Between, TestedPoints, coordinate_place}

-- A coordinate lifted above 0.
abbrev pub lifted : ℤ → ℕ
lifted z = nat_abs (z +ℤ pos 32768)

-- The key of number p on dimension s.
unfoldable pub key_of : ℕ → List ℤ → ℕ → ℕ → ℕ
key_of k points s p = lifted (coord k points p s) * 65536 + p

-- Number p has a key on dimension s: it is small enough, and its coordinate is lent and in range.
pub record Keyed (k : ℕ) (points : List ℤ) (s p : ℕ) : Type 0 where
  pub small : p < 65535
  pub place : p * k + s < length points
  pub range : Between (negsuc 32767) (coord k points p s) (pos 32767)

-- A number that belongs to a tested stock has a key on each dimension.
pub stock_keyed : {s : Stock} → TestedPoints s → (d p : ℕ) → d < s.k → belongs_to s p ≡ true → Keyed s.k s.points d p
stock_keyed {s} tested d p l e = record {
  small = omega (arith, stock_under s p e, tested.many);
  place = coordinate_place s.k s.n s.points tested.size (stock_under s p e) l;
  range = (tested.each p e).ranges d l;
}

-- What is lifted is the coordinate and 32,768 more.
pub lifted_parts : (z : ℤ) → Between (negsuc 32767) z (pos 32767) → lifted z + dn z ≡ up z + 32768
lifted_parts z b = omega (ints, sum_parts z (pos 32768), abs_parts (z +ℤ pos 32768))

pub lifted_small : (z : ℤ) → Between (negsuc 32767) z (pos 32767) → lifted z < 65536
lifted_small z b = omega (ints, lifted_parts z b)

-- The key fits 32 bits, and its remainder is the number.
pub key_small : {k s p : ℕ} {points : List ℤ} → Keyed k points s p → key_of k points s p < 2 ^ 32
unfolding key_of
key_small {k} {s} {p} {points} w = omega (arith, w.small, lifted_small (coord k points p s) w.range)

pub key_number : {k s p : ℕ} {points : List ℤ} → Keyed k points s p → key_of k points s p % 65536 ≡ p
unfolding key_of
key_number w = omega (arith, w.small)

-- Lifted coordinates and numbers below 65,536 compare as coordinates and numbers do.
order : (x y : ℤ) (p q : ℕ) → Between (negsuc 32767) x (pos 32767) → Between (negsuc 32767) y (pos 32767) → p < 65536 → q < 65536
    → lt_z x y || (le_z x y && ltb p q) ≡ ltb (lifted x * 65536 + p) (lifted y * 65536 + q)
order x y p q u v hp hq = go (lt_z x y) (le_z x y) refl refl
  where
    go : (s t : Bool) → lt_z x y ≡ s → le_z x y ≡ t → s || (t && ltb p q) ≡ ltb (lifted x * 65536 + p) (lifted y * 65536 + q)
    go true t e f = sym (lt-ltb (lifted x * 65536 + p) (lifted y * 65536 + q) (omega (flags, lifted_parts x u, lifted_parts y v)))
    go false false e f = sym (le-ltb (lifted x * 65536 + p) (lifted y * 65536 + q) (omega (flags, lifted_parts x u, lifted_parts y v)))
    go false true e f =
        let same : lifted x ≡ lifted y = omega (flags, lifted_parts x u, lifted_parts y v) in
        same_test
        (λ l. lt-ltb (lifted x * 65536 + p) (lifted y * 65536 + q) (omega (arith, ltb-true p q l)))
        (λ l. lt-ltb p q (omega (arith, ltb-true (lifted x * 65536 + p) (lifted y * 65536 + q) l)))

-- Two numbers compare as their keys do.
pub before_key : {k s p q : ℕ} {points : List ℤ} → Keyed k points s p → Keyed k points s q
    → before (coord k points) s p q ≡ ltb (key_of k points s p) (key_of k points s q)
unfolding before key_of
before_key {k} {s} {p} {q} {points} v w =
    order (coord k points p s) (coord k points q s) p q v.range w.range (omega (arith, v.small)) (omega (arith, w.small))

-- Two numbers with one key are one.
pub key_apart : {k s p q : ℕ} {points : List ℤ} → Keyed k points s p → Keyed k points s q → key_of k points s p ≡ key_of k points s q → p ≡ q
key_apart v w e = omega (arith, key_number v, key_number w)

-- A coordinate that the code lifts: the sum fits, it is read back as it was written, is not negative, and is small.
pub record Lifts (z : ℤ) : Type 0 where
  pub fits : SFits w32 (to_z w32 (of_z w32 z) +ℤ pos 32768)
  pub back : to_z w32 (of_z w32 (to_z w32 (of_z w32 z) +ℤ pos 32768)) ≡ z +ℤ pos 32768
  pub not_negative : T (non_neg (z +ℤ pos 32768))
  pub small : lifted z < 65536

above_zero : (z : ℤ) → pos 0 ≤ℤ z → T (non_neg z)
above_zero (pos n) h = tt
above_zero (negsuc n) h = absurd h.le

pub lifts : (z : ℤ) → Between (negsuc 32767) z (pos 32767) → Lifts z
lifts z b =
    let read : to_z w32 (of_z w32 z) ≡ z = to_z-of_z {w = w32} (sfits_abs (omega (ints, abs_parts z))) in
    let sum : SFits w32 (z +ℤ pos 32768) = sfits_abs (omega (arith, lifted_small z b)) in
    record {
      fits = rw read sum;
      back = rw read (to_z-of_z sum);
      not_negative = above_zero (z +ℤ pos 32768) (omega (ints, sum_parts z (pos 32768)));
      small = lifted_small z b;
    }
