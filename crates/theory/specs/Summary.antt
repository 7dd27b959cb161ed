-- The summary as a list: how long it is, where each box stands in it, how it splits, and when it is the true one.
use Rattle.std.specs.Prelude.{◌≡◌, refl, true, ◌&&◌, length, get_or, ℤ, pos}
use Rattle.std.proofs.Common.{sym, ap, ◌∙◌, not-suc-le-zero, le_of_suc-le-suc, length-append, get_or-append-add, ext_get_or}
use mathlib.Core.List.{List, [], ◌∷◌, ◌++◌, append_assoc, map}
use Prim.Native.Nat.{ℕ, zero, suc, ◌+◌, ◌*◌, ◌<◌}
use native.Mathlib.Omega.{arith}
use Rattle.std.proofs.lemmas.List.{length-map}
use Rattle.std.proofs.Math.ListN.{get_or-append}
use Rattle.std.specs.Int.Signed.{le_z}
use Rattle.whole.proofs.Order.{le_antisym, le_z_le, le_le_z, le_refl}
use Rattle.terms.specs.Tests.{rising}
use Rattle.terms.specs.Run.{lefts, rights}
use Rattle.terms.specs.Box.{Box}
use Rattle.terms.specs.TightBox.{tight_box, tight_boxes}
use Rattle.terms.specs.Summary.{row, corners, corners_of, summary, same_numbers}
use Rattle.theory.specs.Flags.{clash, and_true, true_and}
use Rattle.theory.specs.RisingNumbers.{length_rising, rising_at}
use Rattle.theory.specs.RunParts.{left_length, right_length}
use Rattle.theory.specs.Boxes.{Alike}
use Rattle.theory.specs.TightBoxes.{tights_split, tights_fuel, tights_length}

-- A row's coordinates.
pub row_length : (k : ℕ) (r : ℕ → ℤ) → length (row k r) ≡ k
unfolding row
row_length k r = length-map (rising 0 k) r ∙ length_rising 0 k

row_at : (k : ℕ) (r : ℕ → ℤ) (d : ℕ) → d < k → get_or (row k r) d (pos 0) ≡ r d
unfolding row
row_at k r d l = go (rising 0 k) d (omega (arith, length_rising 0 k)) ∙ ap r (omega (arith, rising_at 0 k d 0 l))
  where
    go : (xs : List ℕ) (i : ℕ) → i < length xs → get_or (map r xs) i (pos 0) ≡ r (get_or xs i 0)
    go [] i l = absurd (not-suc-le-zero l)
    go (x ∷ xs) zero l = refl
    go (x ∷ xs) (suc i) l = go xs i (le_of_suc-le-suc l)

row_same : (k : ℕ) (r s : ℕ → ℤ) → ((d : ℕ) → d < k → r d ≡ s d) → row k r ≡ row k s
row_same k r s e =
    ext_get_or (pos 0) (row k r) (row k s) (row_length k r ∙ sym (row_length k s))
    (λ d l. let m : d < k = omega (arith, row_length k r) in row_at k r d m ∙ e d m ∙ sym (row_at k s d m))

-- A box's 2k numbers.
pub corners_length : (k : ℕ) (b : Box) → length (corners k b) ≡ k + k
corners_length k b = omega (arith, length-append (row k b.low) (row k b.high), row_length k b.low, row_length k b.high)

pub corners_low : (k : ℕ) (b : Box) (d : ℕ) → d < k → get_or (corners k b) d (pos 0) ≡ b.low d
corners_low k b d l = get_or-append (row k b.low) (row k b.high) (pos 0) d (omega (arith, row_length k b.low)) ∙ row_at k b.low d l

pub corners_high : (k : ℕ) (b : Box) (d : ℕ) → d < k → get_or (corners k b) (k + d) (pos 0) ≡ b.high d
corners_high k b d l =
    rw (row_length k b.low) at (get_or-append-add (row k b.low) (row k b.high) d (pos 0)) ∙ row_at k b.high d l

-- Boxes with the same corners have the same numbers.
pub corners_alike : {k : ℕ} {b c : Box} → Alike k b c → corners k b ≡ corners k c
corners_alike {k} {b} {c} s = rw (row_same k b.low c.low s.lows, row_same k b.high c.high s.highs)

-- Boxes one after another.
pub boxes_corners_length : (k : ℕ) (bs : List Box) → length (corners_of k bs) ≡ length bs * (k + k)
unfolding corners_of
boxes_corners_length k [] = omega arith
boxes_corners_length k (b ∷ bs) = omega (arith, length-append (corners k b) (corners_of k bs), corners_length k b, boxes_corners_length k bs)

corners_append : (k : ℕ) (cs bs : List Box) → corners_of k (cs ++ bs) ≡ corners_of k cs ++ corners_of k bs
unfolding corners_of
corners_append k [] bs = refl
corners_append k (c ∷ cs) bs = ap (λ (xs : List ℤ). corners k c ++ xs) (corners_append k cs bs) ∙ sym (append_assoc (corners k c) (corners_of k cs) (corners_of k bs))

-- Where the coordinates of box i stand.
module _ (k : ℕ) (none : Box) where
  after_first : (b : Box) (bs : List Box) (n : ℕ) → get_or (corners k b ++ corners_of k bs) (k + k + n) (pos 0) ≡ get_or (corners_of k bs) n (pos 0)
  after_first b bs n = rw (corners_length k b) at (get_or-append-add (corners k b) (corners_of k bs) n (pos 0))

  pub low_stands : (bs : List Box) (i d : ℕ) → i < length bs → d < k → get_or (corners_of k bs) (i * (k + k) + d) (pos 0) ≡ (get_or bs i none).low d
  unfolding corners_of
  low_stands [] i d l m = absurd (not-suc-le-zero l)
  low_stands (b ∷ bs) zero d l m =
      let e : 0 * (k + k) + d ≡ d = omega arith in
      rw e (get_or-append (corners k b) (corners_of k bs) (pos 0) d (omega (arith, corners_length k b)) ∙ corners_low k b d m)
  low_stands (b ∷ bs) (suc i) d l m =
      let e : suc i * (k + k) + d ≡ k + k + (i * (k + k) + d) = omega arith in
      rw e (after_first b bs (i * (k + k) + d) ∙ low_stands bs i d (le_of_suc-le-suc l) m)

  pub high_stands : (bs : List Box) (i d : ℕ) → i < length bs → d < k → get_or (corners_of k bs) (i * (k + k) + k + d) (pos 0) ≡ (get_or bs i none).high d
  unfolding corners_of
  high_stands [] i d l m = absurd (not-suc-le-zero l)
  high_stands (b ∷ bs) zero d l m =
      let e : 0 * (k + k) + k + d ≡ k + d = omega arith in
      rw e (get_or-append (corners k b) (corners_of k bs) (pos 0) (k + d) (omega (arith, corners_length k b)) ∙ corners_high k b d m)
  high_stands (b ∷ bs) (suc i) d l m =
      let e : suc i * (k + k) + k + d ≡ k + k + (i * (k + k) + k + d) = omega arith in
      rw e (after_first b bs (i * (k + k) + k + d) ∙ high_stands bs i d (le_of_suc-le-suc l) m)

-- "2k times v long."
pub summary_length : (k : ℕ) (at : ℕ → ℕ → ℤ) (run : List ℕ) → length (summary k at run) ≡ length run * (k + k)
summary_length k at run = boxes_corners_length k (tight_boxes (length run) at run) ∙ ap (λ (n : ℕ). n * (k + k)) (tights_length (length run) at run (omega arith))

-- The summary of a run that is not empty is its left branch's, its own tight box and its right branch's.
pub summary_split : (k : ℕ) (at : ℕ → ℕ → ℤ) (run : List ℕ) → 0 < length run
    → summary k at run ≡ summary k at (lefts run) ++ (corners k (tight_box at run) ++ summary k at (rights run))
unfolding corners_of
summary_split k at [] some = absurd (not-suc-le-zero some)
summary_split k at (x ∷ xs) some =
    let run : List ℕ = x ∷ xs in
    let f : ℕ = length xs in
    let m = left_length run in
    let r = right_length run in
    ap (corners_of k) (tights_split f at run some)
    ∙ corners_append k (tight_boxes f at (lefts run)) (tight_box at run ∷ tight_boxes f at (rights run))
    ∙ rw (
      tights_fuel f (length (lefts run)) at (lefts run) (omega arith) (omega arith),
      tights_fuel f (length (rights run)) at (rights run) (omega arith) (omega arith),
    )

-- The test of two lists says whether they are equal.
pub same_numbers_lem : (xs ys : List ℤ) → same_numbers xs ys ≡ true → xs ≡ ys
unfolding same_numbers
same_numbers_lem [] [] e = refl
same_numbers_lem [] (y ∷ ys) e = clash e refl
same_numbers_lem (x ∷ xs) [] e = clash e refl
same_numbers_lem (x ∷ xs) (y ∷ ys) e =
    let p = and_true (le_z x y && le_z y x) e in
    let q = and_true (le_z x y) p.0 in
    let h : x ≡ y = le_antisym (le_z_le q.0) (le_z_le q.1) in
    let t : xs ≡ ys = same_numbers_lem xs ys p.1 in
    rw (h, t)

numbers_same_self : (xs : List ℤ) → same_numbers xs xs ≡ true
unfolding same_numbers
numbers_same_self [] = refl
numbers_same_self (x ∷ xs) = true_and (true_and (le_le_z (le_refl x)) (le_le_z (le_refl x))) (numbers_same_self xs)

pub numbers_same : {xs ys : List ℤ} → xs ≡ ys → same_numbers xs ys ≡ true
numbers_same {xs} {ys} e = rw e (numbers_same_self ys)
