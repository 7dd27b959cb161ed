-- The places are the box's numbers where both rows are found in them.
use Rattle.std.proofs.Common.{◌≡◌, List, ℤ, ℕ, ◌++◌, ◌+◌, ◌-◌, ◌≤◌, sym, ap, ◌∙◌, length, take, drop, arith, take-append-drop, take_at, drop_at, take_all, length-take-le, length-drop}
use Rattle.std.proofs.lemmas.Bool.Decides.{Decides-int_eq}
use Rattle.std.proofs.lemmas.Slice.Eq.{slice_eq-Decides}
use Rattle.terms.specs.Points.{lone}
use Rattle.terms.specs.Summary.{corners}
use Rattle.theory.specs.Flags.{same_test, clash}
use Rattle.theory.specs.Summary.{numbers_same, same_numbers_lem}
use Rattle.summary.specs.Written.{rows_written}
use Rattle.summary.proofs.boxes.same_box.Goals as goal

module _ (k : ℕ) (places low high : List ℤ) (size : length places ≡ k + k) (some : k ≤ length low) (more : k ≤ length high) where
  rest : take (length places - k) (drop k places) ≡ drop k places
  rest = take_all (length places - k) (drop k places) (omega (arith, length-drop k places))

  -- Both rows are found, and so the places are the box's numbers;
  rows_found : take k places ≡ take k low → take (length places - k) (drop k places) ≡ take k high
      → places ≡ corners k (record { low = lone low; high = lone high })
  rows_found p q = sym (take-append-drop k places) ∙ rw (p, sym rest ∙ q) (rows_written k low high some more)

  -- and the other way.
  found_rows : places ≡ corners k (record { low = lone low; high = lone high })
      → (take k places ≡ take k low) × (take (length places - k) (drop k places) ≡ take k high)
  found_rows e =
      let w : places ≡ take k low ++ take k high = e ∙ sym (rows_written k low high some more) in
      let n : length (take k low) ≡ k = length-take-le k low some in
      (ap (take k) w ∙ take_at (take k low) (take k high) k n, rest ∙ ap (drop k) w ∙ drop_at (take k low) (take k high) k n)

pub returns-then-eq : goal.returns-then-eq
returns-then-eq c =
    let a = c.args in
    let first = slice_eq-Decides Decides-int_eq _ _ _ c.eq.ensures in
    let second = slice_eq-Decides Decides-int_eq _ _ _ c.eq-then-eq.ensures in
    same_test
    (λ r. numbers_same (rows_found a.k a.places.now a.rows.low a.rows.high c.requires.places_len (omega arith) (omega arith) (first.0 c.if-eq.true) (second.0 r)))
    (λ s. second.1 (found_rows a.k a.places.now a.rows.low a.rows.high c.requires.places_len (omega arith) (omega arith) (same_numbers_lem _ _ s)).1)

pub returns-else-eq : goal.returns-else-eq
returns-else-eq c =
    let a = c.args in
    let first = slice_eq-Decides Decides-int_eq _ _ _ c.eq.ensures in
    same_test
    (λ r. clash r c.if-eq.false)
    (λ s. first.1 (found_rows a.k a.places.now a.rows.low a.rows.high c.requires.places_len (omega arith) (omega arith) (same_numbers_lem _ _ s)).0)
