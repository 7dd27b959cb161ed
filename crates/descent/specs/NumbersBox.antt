-- The root box of all numbers in one pass. The coordinates are dealt to lanes in turn, as cards are, and a lane keeps the least and the greatest of what it was dealt.
-- Since the lanes are a multiple of k, dealing them to k places deals the coordinates to k places, one for each dimension.
use Rattle.std.specs.Prelude.{◌≡◌, List, ℕ, zero, suc, ◌+◌, ◌*◌, ◌/◌, ◌%◌, ◌≤◌, ◌<◌, length, get_or, set, replicate, ℤ, pos, negsuc, ◌≤ℤ◌}
use Rattle.std.proofs.Common.{sym, ap, ◌∙◌, ⊎_elim, not-suc-le-zero, mod-lt, mod-eq_of_lt, div-add-mod', div-lt_iff_lt-mul, arith, length-set, get_or-set_same, below_more}
use Rattle.std.proofs.Math.Nat.{mul-add-mod_self_right}
use Rattle.std.proofs.lemmas.List.{length-replicate, get_or-replicate}
use Rattle.whole.specs.Order.{lesser, greater}
use Rattle.whole.specs.Choices.{AtLeast, Choice}
use Rattle.whole.proofs.Choices.{least_choice, greatest_choice}
use Rattle.terms.specs.Tests.{rising}
use Rattle.terms.specs.Points.{coord, lone}
use Rattle.theory.specs.Stores.{stored}
use Rattle.theory.specs.Tested.{coordinate_place}
use Rattle.theory.specs.RisingNumbers.{length_rising, rising_at}
use Rattle.descent.specs.Standing.{Known}
use Rattle.descent.specs.SlotsBox.{SlotsBoxed, Foremost, foremost_low, foremost_high}

-- Each of m numbers has its point, and no more is lent.
pub record NumbersKnown (k m : ℕ) (points : List ℤ) : Type 0 where
  pub some : 1 ≤ k
  pub few : k ≤ 4
  pub size : length points ≡ k * m
  pub known : Known k points (rising 0 m)

-- The first i values are dealt to w lanes in turn. What a lane keeps comes before each value dealt to it, and after all that come before those and the start.
pub record Row (le : ℤ → ℤ → Type 0) (w : ℕ) (value : ℕ → ℤ) (start : ℤ) (i : ℕ) (row : List ℤ) : Type 0 where
  pub wide : w ≤ length row
  pub before : (u : ℕ) → u < i → le (lone row (u % w)) (value u)
  pub after : (z : ℤ) (j : ℕ) → j < w → le z start → ((u : ℕ) → u < i → u % w ≡ j → le z (value u)) → le z (lone row j)

-- Before the first value every lane has the start.
row_none : {le : ℤ → ℤ → Type 0} (w n : ℕ) (value : ℕ → ℤ) (start : ℤ) → w ≤ n → Row le w value start 0 (replicate n start)
row_none w n value start few = record {
  wide = omega (arith, length-replicate n start);
  before = λ u l. absurd (not-suc-le-zero l);
  after = λ z j l zs all. rw (get_or-replicate n j start (pos 0) (omega arith)) zs;
}

module _ {le : ℤ → ℤ → Type 0} {pick : ℤ → ℤ → ℤ} (c : Choice le pick) {w : ℕ} {value : ℕ → ℤ} {start : ℤ} {i : ℕ} {row : List ℤ} (r : Row le w value start i row) where
  -- One value more, dealt to lane j.
  row_more : (j : ℕ) → j < w → i % w ≡ j → Row le w value start (i + 1) (set row j (pick (lone row j) (value i)))
  row_more j l at = record { wide = omega (arith, length-set row j x, r.wide); before = below_more _ i before here; after = after }
    where
      x : ℤ
      x = pick (lone row j) (value i)

      room : j < length row
      room = omega (arith, r.wide)

      before : (u : ℕ) → u < i → le (lone (set row j x) (u % w)) (value u)
      before u m =
          let old = r.before u m in
          ⊎_elim (λ s. rw s.1 (c.trans (c.left _ _) (rw s.0 at old))) (λ s. rw s old) (stored row j x (pos 0) (u % w) room)

      here : le (lone (set row j x) (i % w)) (value i)
      here = rw (at, get_or-set_same row j x (pos 0) room) (c.right (lone row j) (value i))

      after : (z : ℤ) (e : ℕ) → e < w → le z start → ((u : ℕ) → u < i + 1 → u % w ≡ e → le z (value u)) → le z (lone (set row j x) e)
      after z e m zs all =
          let old = r.after z e m zs (λ u n. all u (omega arith)) in
          ⊎_elim (λ s. rw s.1 (c.both (rw s.0 at old) (all i (omega arith) (at ∙ sym s.0)))) (λ s. rw s old) (stored row j x (pos 0) e room)

  -- The lanes themselves dealt to k places: where the lanes are a multiple of k, the values are dealt to k places.
  row_of_lanes : {k : ℕ} {short : List ℤ} → 0 < w → ((u : ℕ) → u % w % k ≡ u % k) → Row le k (lone row) start w short → Row le k value start i short
  row_of_lanes {k} {short} some same s = record {
    wide = s.wide;
    before = λ u l. c.trans (rw (same u) at (s.before (u % w) (mod-lt u some))) (r.before u l);
    after = λ z d l zs all. s.after z d l zs (λ j m e. r.after z j m zs (λ u n f. all u n (sym (same u) ∙ ap (λ (v : ℕ). v % k) f ∙ e)));
  }

-- The least and the greatest of what each of w lanes was dealt. No coordinate is above the start of the least, nor below that of the greatest.
pub record Dealt (w : ℕ) (low high : ℕ → ℤ) (i : ℕ) (least greatest : List ℤ) : Type 0 where
  pub lows : Row ◌≤ℤ◌ w low (pos 32767) i least
  pub highs : Row AtLeast w high (negsuc 32767) i greatest

-- Before the first value.
pub dealt_none : (w n : ℕ) (low high : ℕ → ℤ) → w ≤ n → Dealt w low high 0 (replicate n (pos 32767)) (replicate n (negsuc 32767))
dealt_none w n low high few = record { lows = row_none w n low (pos 32767) few; highs = row_none w n high (negsuc 32767) few }

module _ {w : ℕ} {low high : ℕ → ℤ} {i : ℕ} {least greatest : List ℤ} (r : Dealt w low high i least greatest) where
  -- One value more.
  pub dealt_more : (j : ℕ) → j < w → i % w ≡ j
      → Dealt w low high (i + 1) (set least j (lesser (lone least j) (low i))) (set greatest j (greater (lone greatest j) (high i)))
  dealt_more j l at = record { lows = row_more least_choice r.lows j l at; highs = row_more greatest_choice r.highs j l at }

  -- The lanes dealt to k places.
  pub dealt_again : {k : ℕ} {lows highs : List ℤ} → 0 < w → ((u : ℕ) → u % w % k ≡ u % k) → Dealt k (lone least) (lone greatest) w lows highs → Dealt k low high i lows highs
  dealt_again some same s = record {
    lows = row_of_lanes least_choice r.lows some same s.lows;
    highs = row_of_lanes greatest_choice r.highs some same s.highs;
  }

-- Since 24 is a multiple of each k, a lane has coordinates of one dimension.
pub lane_dimension : {k m : ℕ} {points : List ℤ} → NumbersKnown k m points → (u : ℕ) → u % 24 % k ≡ u % k
lane_dimension {k} t u = go k t.some t.few
  where
    go : (k : ℕ) → 1 ≤ k → k ≤ 4 → u % 24 % k ≡ u % k
    go zero some few = absurd (not-suc-le-zero some)
    go (suc zero) some few = omega arith
    go (suc (suc zero)) some few = omega arith
    go (suc (suc (suc zero))) some few = omega arith
    go (suc (suc (suc (suc zero)))) some few = omega arith
    go (suc (suc (suc (suc (suc k))))) some few = absurd (omega arith)

module _ {k m : ℕ} {points : List ℤ} (t : NumbersKnown k m points) where
  -- Place p of the numbers has number p.
  number : (p : ℕ) → p < length (rising 0 m) → get_or (rising 0 m) p 0 ≡ p
  number p n = omega (arith, rising_at 0 m p 0 (omega (arith, length_rising 0 m)))

  -- Once all coordinates are dealt to k places, what stands in place d comes first of the coordinates of dimension d.
  row_foremost : {le : ℤ → ℤ → Type 0} {start : ℤ} {row : List ℤ} {d : ℕ} → d < k → Row le k (lone points) start (length points) row
      → Foremost le (λ j. coord k points (get_or (rising 0 m) j 0) d) start (length (rising 0 m)) (lone row d)
  row_foremost {le} {start} {row} {d} l r = record { before = before; after = λ z s all. r.after z d l s (after z all) }
    where
      before : (p : ℕ) → p < length (rising 0 m) → le (lone row d) (coord k points (get_or (rising 0 m) p 0) d)
      before p n =
          let place : (p * k + d) % k ≡ d = mul-add-mod_self_right p k d ∙ mod-eq_of_lt l in
          let few : p < m = omega (arith, length_rising 0 m) in
          rw (number p n) (rw place at (r.before (p * k + d) (coordinate_place k m points t.size few l)))

      after : (z : ℤ) → ((p : ℕ) → p < length (rising 0 m) → le z (coord k points (get_or (rising 0 m) p 0) d)) → (u : ℕ) → u < length points → u % k ≡ d → le z (lone points u)
      after z all u n e =
          let few : u / k < m = (div-lt_iff_lt-mul {k = k} {x = u} {y = m} (omega arith)).1 (omega (arith, t.size)) in
          let inside : u / k < length (rising 0 m) = omega (arith, length_rising 0 m) in
          let place : u / k * k + d ≡ u = rw e at (div-add-mod' u k) in
          rw place at (rw (number (u / k) inside) at (all (u / k) inside))

  -- All coordinates dealt to k places are the root box.
  pub dealt_all : {low high : List ℤ} → Dealt k (lone points) (lone points) (length points) low high
      → SlotsBoxed k points (rising 0 m) (record { low = lone low; high = lone high })
  dealt_all r = record {
    alike = λ some. record {
      lows = λ d l. foremost_low t.known some l (row_foremost l r.lows);
      highs = λ d l. foremost_high t.known some l (row_foremost l r.highs);
    };
  }
