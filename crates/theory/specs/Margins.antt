-- The margin of a point to a face: what it says of above and inside, its range, and the least of it over the faces, which with its lowest number is the
-- only pair that nothing goes below.
use Rattle.std.specs.Prelude.{◌≡◌, Bool, true, false, cond, ◌⊎◌, ℤ, pos, negsuc, nat_abs, ◌*ℤ◌, ◌-ℤ◌, ◌≤ℤ◌, ◌<ℤ◌, ltb, eqb}
use Rattle.std.proofs.Math.Path.{refl, fun_ext}
use Rattle.std.proofs.Common.{ap, ◌∙◌, inl, inr, ⊎_elim, mul-le-mul, ltb-true, ltb-false, eqb-true, below_more}
use Prim.Native.Nat.{ℕ, zero, suc, ◌+◌, ◌≤◌, ◌<◌}
use native.Mathlib.Omega.{arith}
use Rattle.std.proofs.Math.ListN.{get_or}
use Rattle.std.specs.Int.Signed.{le_z, lt_z}
use Rattle.std.proofs.lemmas.Bool.{eqb-false}
use Rattle.whole.proofs.Parts.{ints, flags, abs_parts, dif_parts}
use Rattle.whole.proofs.Order.{le_refl, le_of_eq, le_of_lt, le_le_z, le_z_le, le_z_gt, le_antisym, le_trans, lt_of_lt_of_le, not_lt_of_le}
use Rattle.whole.proofs.Magnitudes.{abs_mul, abs_dif}
use Rattle.whole.proofs.IndexedSum.{sum_abs}
use Rattle.terms.specs.Tests.{keep, pick, all_to, rising}
use Rattle.terms.specs.Screen.{first}
use Rattle.terms.specs.Region.{Region, reach, above_at, inside}
use Rattle.terms.specs.Margin.{margin, least_to, lowest_least, least_margin, least_face}
use Rattle.theory.specs.Flags.{same_test, clash}
use Rattle.theory.specs.AllAndAny.{all_each, each_all, all_same}
use Rattle.theory.specs.Tested.{Between, Coordinates}
use Rattle.theory.specs.PointsAlike.{SamePoint, sum_same_point}
use Rattle.theory.specs.RisingNumbers.{length_rising, rising_at}
use Rattle.theory.specs.LeastAndGreatest.{least_keeps, least_le_first, least_le_each}

-- ---- above, by the margin
-- A margin is above face i: 0 or more where the face is closed, more than 0 where it is open.
abbrev pub above_by : Region → ℕ → ℤ → Bool
above_by g i m = cond (g.marked_open i) (lt_z (pos 0) m) (le_z (pos 0) m)

module _ (g : Region) where
  -- "Negative is below; zero is on the face, above it if closed and below it if open."
  pub above_by_margin : (i : ℕ) (v : ℤ) → above_at g i v ≡ above_by g i (v -ℤ g.offset i)
  unfolding above_at
  above_by_margin i v = go (g.marked_open i)
    where
      strictly : lt_z (g.offset i) v ≡ lt_z (pos 0) (v -ℤ g.offset i)
      strictly = same_test (λ e. omega (flags, dif_parts v (g.offset i))) (λ e. omega (flags, dif_parts v (g.offset i)))

      at_least : le_z (g.offset i) v ≡ le_z (pos 0) (v -ℤ g.offset i)
      at_least = same_test (λ e. omega (flags, dif_parts v (g.offset i))) (λ e. omega (flags, dif_parts v (g.offset i)))

      go : (t : Bool)
          → cond t (lt_z (g.offset i) v) (le_z (g.offset i) v) ≡ cond t (lt_z (pos 0) (v -ℤ g.offset i)) (le_z (pos 0) (v -ℤ g.offset i))
      go true = strictly
      go false = at_least

  -- Inside exactly if every margin is above.
  pub inside_by_margins : (x : ℕ → ℤ) → inside g x ≡ all_to g.h (λ i. above_by g i (margin g i x))
  unfolding inside
  inside_by_margins x = all_same g.h _ _ (λ i l. above_by_margin i (reach g i x))

-- ---- the range
-- "It lies within -12,884,770,816 to 12,884,770,816."
module _ (g : Region) (i : ℕ) {x : ℕ → ℤ} (few : g.k ≤ 4) (coordinates : Coordinates g.k x)
    (components : (d : ℕ) → d < g.k → Between (negsuc 32766) (g.component i d) (pos 32767))
    (offset : Between (negsuc 8589934591) (g.offset i) (pos 8589934592)) where
  abs_reach : nat_abs (reach g i x) ≤ 4294836224
  abs_reach = omega (arith, sum_abs g.k 1073709056 (λ d. g.component i d *ℤ x d) product)
    where
      component : (d : ℕ) → d < g.k → nat_abs (g.component i d) ≤ 32767
      component d l = let r = components d l in omega (ints, abs_parts (g.component i d))

      coordinate : (d : ℕ) → d < g.k → nat_abs (x d) ≤ 32768
      coordinate d l = let r = coordinates.ranges d l in omega (ints, abs_parts (x d))

      product : (d : ℕ) → d < g.k → nat_abs (g.component i d *ℤ x d) ≤ 1073709056
      product d l = omega (arith, abs_mul (g.component i d) (x d), mul-le-mul (component d l) (coordinate d l))

  pub abs_margin : nat_abs (margin g i x) ≤ 12884770816
  abs_margin = omega (ints, abs_reach, abs_dif (reach g i x) (g.offset i), abs_parts (g.offset i))

  pub margin_between : Between (negsuc 12884770815) (margin g i x) (pos 12884770816)
  margin_between = record { from_least = omega (ints, abs_margin, abs_parts (margin g i x)); to_greatest = omega (ints, abs_margin, abs_parts (margin g i x)) }

-- ---- the least
-- The number has the least value of 0 to h - 1, and none before it has.
pub record LeastAt (h : ℕ) (value : ℕ → ℤ) (number : ℕ) (least : ℤ) : Type 0 where
  pub known : number < h
  pub attained : value number ≡ least
  pub least_of : (j : ℕ) → j < h → least ≤ℤ value j
  pub lowest : (j : ℕ) → j < number → least <ℤ value j

-- There is one such pair.
pub least_at_once : {h : ℕ} {value : ℕ → ℤ} {i j : ℕ} {a b : ℤ} → LeastAt h value i a → LeastAt h value j b → (i ≡ j) × (a ≡ b)
least_at_once {h} {value} {i} {j} {a} {b} p q = (omega (arith, not_after p q, not_after q p), le_antisym (le p q) (le q p))
  where
    le : {s t : ℕ} {c d : ℤ} → LeastAt h value s c → LeastAt h value t d → c ≤ℤ d
    le {t = t} p q = rw (← q.attained) (p.least_of t q.known)

    not_after : {s t : ℕ} {c d : ℤ} → LeastAt h value s c → LeastAt h value t d → t ≤ s
    not_after {s} {t} {c} {d} p q = go (ltb s t) refl
      where
        go : (u : Bool) → ltb s t ≡ u → t ≤ s
        go true e = let below = rw p.attained at (q.lowest s (ltb-true s t e)) in absurd (not_lt_of_le (le p q) below)
        go false e = ltb-false s t e

-- Before any value is asked there is none; the next value, where it is strictly less, takes the place of the least so far.
module _ {value : ℕ → ℤ} where
  pub least_at_first : LeastAt 1 value 0 (value 0)
  least_at_first = record {
    known = omega arith;
    attained = refl;
    least_of = λ j l. let e : j ≡ 0 = omega arith in rw e (le_refl (value 0));
    lowest = λ j l. absurd (omega arith);
  }

  module _ {h number : ℕ} {least : ℤ} (p : LeastAt h value number least) where
    pub least_at_lower : value h <ℤ least → LeastAt (h + 1) value h (value h)
    least_at_lower l = record {
      known = omega arith;
      attained = refl;
      least_of = below_more (λ j. (value h ≤ℤ value j)) h (λ j m. le_of_lt (lt_of_lt_of_le l (p.least_of j m))) (le_refl (value h));
      lowest = λ j m. lt_of_lt_of_le l (p.least_of j m);
    }

    pub least_at_kept : least ≤ℤ value h → LeastAt (h + 1) value number least
    least_at_kept l = record {
      known = let k = p.known in omega arith;
      attained = p.attained;
      least_of = below_more (λ j. (least ≤ℤ value j)) h p.least_of l;
      lowest = p.lowest;
    }

-- ---- the words are that pair
-- The first of the rising numbers that passes a test which one of them passes.
record FirstPassing (test : ℕ → Bool) (a c f : ℕ) : Type 0 where
  from : a ≤ f
  to : f < a + c
  passes : test f ≡ true
  none_before : (j : ℕ) → a ≤ j → j < f → test j ≡ false

here_or_later : (a j : ℕ) → a ≤ j → (a ≡ j) ⊎ (suc a ≤ j)
here_or_later a j l = go (eqb a j) refl
  where
    go : (t : Bool) → eqb a j ≡ t → (a ≡ j) ⊎ (suc a ≤ j)
    go true e = inl (eqb-true a j e)
    go false e = let apart = eqb-false a j e in inr (omega arith)

first_passing : (test : ℕ → Bool) (a c i : ℕ) → a ≤ i → i < a + c → test i ≡ true → FirstPassing test a c (first (keep test (rising a c)))
unfolding keep rising
first_passing test a zero i l m e = absurd (omega arith)
first_passing test a (suc c) i l m e = go (test a) refl (λ later. first_passing test (suc a) c i later (omega arith) e)
  where
    go : (t : Bool) → test a ≡ t → (suc a ≤ i → FirstPassing test (suc a) c (first (keep test (rising (suc a) c))))
        → FirstPassing test a (suc c) (first (pick t a (keep test (rising (suc a) c))))
    go true q rest = record { from = omega arith; to = omega arith; passes = q; none_before = λ j n o. absurd (omega arith) }
    go false q rest =
        let w = rest (⊎_elim (λ s. clash (rw (← s) at e) q) (λ later. later) (here_or_later a i l)) in
        record {
          from = let f = w.from in omega arith;
          to = let f = w.to in omega arith;
          passes = w.passes;
          none_before = λ j n o. ⊎_elim (λ s. rw (← s) q) (λ later. w.none_before j later o) (here_or_later a j n);
        }

module _ (h : ℕ) (value : ℕ → ℤ) where
  -- The least is a value, and at most every one.
  least_attained : (i : ℕ) × (i < suc h) × (value i ≡ least_to (suc h) value)
  unfolding least_to
  least_attained = least_keeps value (value 0) (rising 1 h) (λ z. (i : ℕ) × (i < suc h) × (value i ≡ z))
      (0, omega arith, refl)
      (λ i l. (get_or (rising 1 h) i 0, omega (arith, length_rising 1 h, rising_at 1 h i 0 (omega (arith, length_rising 1 h))), refl))

  least_le : (j : ℕ) → j < suc h → least_to (suc h) value ≤ℤ value j
  unfolding least_to
  least_le zero l = least_le_first value (value 0) (rising 1 h)
  least_le (suc j) l =
      let at_j : get_or (rising 1 h) j 0 ≡ suc j = omega (arith, rising_at 1 h j 0 (omega arith)) in
      rw at_j at (least_le_each value (value 0) (rising 1 h) j (omega (arith, length_rising 1 h)))

  -- "The least distance number over its faces with the lowest-numbered face that has it."
  pub least_words : LeastAt (suc h) value (lowest_least (suc h) value) (least_to (suc h) value)
  unfolding lowest_least
  least_words =
      let one = least_attained in
      let w = first_passing (λ i. le_z (value i) (least_to (suc h) value)) 0 (suc h) one.0 (omega arith) (omega (arith, one.1))
      (le_le_z (le_of_eq one.2)) in
      record {
        known = let f = w.to in omega arith;
        attained = le_antisym (le_z_le w.passes) (least_le _ (let f = w.to in omega arith));
        least_of = least_le;
        lowest = λ j l. le_z_gt (w.none_before j (omega arith) l);
      }

pub least_words_of : (h : ℕ) (value : ℕ → ℤ) → 0 < h → LeastAt h value (lowest_least h value) (least_to h value)
least_words_of zero value l = absurd (omega arith)
least_words_of (suc h) value l = least_words h value

-- ---- closed faces
module _ (g : Region) (x : ℕ → ℤ) where
  closed_by : (h : ℕ) → ((i : ℕ) → i < h → g.marked_open i ≡ false)
      → all_to h (λ i. above_by g i (margin g i x)) ≡ le_z (pos 0) (least_to h (λ i. margin g i x))
  unfolding all_to least_to
  closed_by zero closed = refl
  closed_by (suc h) closed = same_test all_least least_all
    where
      least : LeastAt (suc h) (λ i. margin g i x) (lowest_least (suc h) (λ i. margin g i x)) (least_to (suc h) (λ i. margin g i x))
      least = least_words h (λ i. margin g i x)

      all_least : all_to (suc h) (λ i. above_by g i (margin g i x)) ≡ true → le_z (pos 0) (least_to (suc h) (λ i. margin g i x)) ≡ true
      all_least e =
          let one = all_each (suc h) (λ i. above_by g i (margin g i x)) e (lowest_least (suc h) (λ i. margin g i x)) least.known in
          rw (← least.attained) (rw (closed (lowest_least (suc h) (λ i. margin g i x)) least.known) at one)

      least_all : le_z (pos 0) (least_to (suc h) (λ i. margin g i x)) ≡ true → all_to (suc h) (λ i. above_by g i (margin g i x)) ≡ true
      least_all e = each_all (suc h) (λ i. above_by g i (margin g i x)) (λ i l. rw (closed i l) (le_le_z {a = pos 0} {b = margin g i x} (le_trans (le_z_le e) (least.least_of i l))))

  -- For closed faces only: inside exactly if the least margin is 0 or more.
  pub closed_inside_by_least : ((i : ℕ) → i < g.h → g.marked_open i ≡ false) → inside g x ≡ le_z (pos 0) (least_margin g x)
  closed_inside_by_least closed = inside_by_margins g x ∙ closed_by g.h closed

-- ---- points alike
-- Two points with the same first k coordinates have the same margins, so the same least one.
module _ (g : Region) {x y : ℕ → ℤ} (s : SamePoint g.k x y) where
  pub margin_same_point : (i : ℕ) → margin g i x ≡ margin g i y
  margin_same_point i = ap (λ (v : ℤ). v -ℤ g.offset i) (sum_same_point s (g.component i))

  margins_same_point : ◌≡◌ {A = ℕ → ℤ} (λ i. margin g i x) (λ i. margin g i y)
  margins_same_point = fun_ext margin_same_point

  pub least_margin_same_point : least_margin g x ≡ least_margin g y
  least_margin_same_point = ap (least_to g.h) margins_same_point

  pub least_face_same_point : least_face g x ≡ least_face g y
  least_face_same_point = ap (lowest_least g.h) margins_same_point
