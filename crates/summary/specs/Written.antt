-- The 2k numbers of a box, dimension by dimension: the first d coordinates of both rows stand in their places.
use Rattle.std.specs.Prelude.{◌≡◌, refl, false, List, ◌++◌, ℕ, ◌+◌, ◌-◌, ◌≤◌, ◌<◌, length, take, get_or, set, ℤ, pos}
use Rattle.std.proofs.Common.{sym, ap, ◌∙◌, arith, length-set, get_or-set_same, get_or-set_other, ext_get_or, SFits, to_z, of_z, to_z-of_z, below_more, length-append, length-take-le, get_or-take, get_or-append-add}
use Rattle.std.proofs.Math.Decide.{dec_lt}
use Rattle.std.proofs.Math.ListN.{get_or-append}
use Rattle.std.specs.Int.{w32}
use Rattle.terms.specs.Points.{lone}
use Rattle.terms.specs.Box.{Box}
use Rattle.terms.specs.Summary.{corners, same_numbers}
use Rattle.theory.specs.Flags.{contra}
use Rattle.theory.specs.Summary.{corners_length, corners_low, corners_high, same_numbers_lem}

-- The places have the first d coordinates of both rows.
pub record WrittenTo (k : ℕ) (b : Box) (d : ℕ) (places : List ℤ) : Type 0 where
  pub turns : d ≤ k
  pub size : length places ≡ k + k
  pub lows : (e : ℕ) → e < d → get_or places e (pos 0) ≡ b.low e
  pub highs : (e : ℕ) → e < d → get_or places (k + e) (pos 0) ≡ b.high e

pub written_none : {k : ℕ} {b : Box} {places : List ℤ} → length places ≡ k + k → WrittenTo k b 0 places
written_none size = record { turns = omega arith; size = size; lows = λ e l. absurd (omega arith); highs = λ e l. absurd (omega arith) }

module _ {k : ℕ} {b : Box} {d : ℕ} {places : List ℤ} (w : WrittenTo k b d places) where
  -- One dimension more is found there,
  pub written_found : d < k → get_or places d (pos 0) ≡ b.low d → get_or places (k + d) (pos 0) ≡ b.high d → WrittenTo k b (d + 1) places
  written_found l p q = record {
    turns = omega arith;
    size = w.size;
    lows = below_more (λ e. get_or places e (pos 0) ≡ b.low e) d w.lows p;
    highs = below_more (λ e. get_or places (k + e) (pos 0) ≡ b.high e) d w.highs q;
  }

  -- or written.
  pub written_next : d < k → {x y : ℤ} → x ≡ b.low d → y ≡ b.high d → WrittenTo k b (d + 1) (set (set places d x) (k + d) y)
  written_next l {x} {y} p q =
      let one = length-set places d x in
      let two = length-set (set places d x) (k + d) y in
      let size = w.size in
      record {
        turns = omega arith;
        size = omega arith;
        lows = below_more (λ e. get_or (set (set places d x) (k + d) y) e (pos 0) ≡ b.low e) d
            (λ e m.
            get_or-set_other (set places d x) (k + d) e y (pos 0) (λ z. omega arith)
            ∙ get_or-set_other places d e x (pos 0) (λ z. omega arith)
            ∙ w.lows e m)
            (get_or-set_other (set places d x) (k + d) d y (pos 0) (λ z. omega arith) ∙ get_or-set_same places d x (pos 0) (omega arith) ∙ p);
        highs = below_more (λ e. get_or (set (set places d x) (k + d) y) (k + e) (pos 0) ≡ b.high e) d
            (λ e m.
            get_or-set_other (set places d x) (k + d) (k + e) y (pos 0) (λ z. omega arith)
            ∙ get_or-set_other places d (k + e) x (pos 0) (λ z. omega arith)
            ∙ w.highs e m)
            (get_or-set_same (set places d x) (k + d) y (pos 0) (omega arith) ∙ q);
      }

  -- After all dimensions the places are the box's numbers.
  pub written_all : k ≤ d → places ≡ corners k b
  written_all l = ext_get_or (pos 0) places (corners k b) (w.size ∙ sym (corners_length k b)) (λ i m. go i (omega (arith, w.size)) (dec_lt i k))
    where
      go : (i : ℕ) → i < k + k → Dec (i < k) → get_or places i (pos 0) ≡ get_or (corners k b) i (pos 0)
      go i m (yes p) = w.lows i (omega (arith, w.turns)) ∙ sym (corners_low k b i p)
      go i m (no p) =
          let e : i ≡ k + (i - k) = omega arith in
          let h : i - k < k = omega arith in
          rw e (w.highs (i - k) (omega (arith, w.turns)) ∙ sym (corners_high k b (i - k) h))

-- The first k numbers of both rows, one row after the other, are the box's numbers.
pub rows_written : (k : ℕ) (low high : List ℤ) → k ≤ length low → k ≤ length high
    → take k low ++ take k high ≡ corners k (record { low = lone low; high = lone high })
rows_written k low high some more =
    let n : length (take k low) ≡ k = length-take-le k low some in
    let m : length (take k high) ≡ k = length-take-le k high more in
    written_all {d = k} (record {
      turns = omega arith;
      size = omega (arith, length-append (take k low) (take k high));
      lows = λ e l. get_or-append (take k low) (take k high) (pos 0) e (omega arith) ∙ rw get_or-take;
      highs = λ e l. rw n at (get_or-append-add (take k low) (take k high) e (pos 0)) ∙ rw get_or-take;
    }) (omega arith)

-- The code compares the bits of two coordinates that fit.
pub same_bits : {x y : ℤ} → SFits w32 x → SFits w32 y → of_z w32 x ≡ of_z w32 y → x ≡ y
same_bits p q e = sym (to_z-of_z p) ∙ ap (to_z w32) e ∙ to_z-of_z q

-- One coordinate that differs tells the two lists apart.
module _ {k : ℕ} (b : Box) {d : ℕ} (places : List ℤ) (l : d < k) where
  differ : (places ≡ corners k b → ⊥) → same_numbers places (corners k b) ≡ false
  differ n = contra {s = same_numbers places (corners k b)} {t = false} (λ e. absurd (n (same_numbers_lem places (corners k b) e))) refl

  pub low_differs : (of_z w32 (get_or places d (pos 0)) ≡ of_z w32 (b.low d) → ⊥) → same_numbers places (corners k b) ≡ false
  low_differs n = differ (λ e. n (ap (of_z w32) (ap (λ (xs : List ℤ). get_or xs d (pos 0)) e ∙ corners_low k b d l)))

  pub high_differs : (of_z w32 (get_or places (k + d) (pos 0)) ≡ of_z w32 (b.high d) → ⊥) → same_numbers places (corners k b) ≡ false
  high_differs n = differ (λ e. n (ap (of_z w32) (ap (λ (xs : List ℤ). get_or xs (k + d) (pos 0)) e ∙ corners_high k b d l)))
