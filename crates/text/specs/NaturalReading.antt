-- Why `read_natural` reads right. Where a number's writing and a stop begin at a place, the run of digits there is the writing, so the run's end,
-- its size and its front decide.
use Rattle.std.specs.Prelude.{◌≡◌, true, false, List, [], ◌∷◌, ◌++◌, ℕ, zero, suc, ◌+◌, ◌-◌, ◌≤◌, ◌<◌, length, get_or, take, drop}
use Rattle.std.proofs.Common.{sym, ap, ◌∙◌, append_assoc, append-nil, add-one, arith, take-append-drop, length-take-le, drop-cons}
use Rattle.std.proofs.Math.Decide.{dec_lt}
use Rattle.std.proofs.Math.Seq.{slice, length-slice, drop-length, slice-cons}
use Rattle.std.proofs.lemmas.List.{drop-append-le}
use Rattle.text.specs.Decimal.{decimal}
use Rattle.text.specs.DecimalLaws.{low_stop, digits_stop, digits_only, decimal_all_digits, decimal_some, decimal_front, decimal_length}
use Rattle.text.specs.DecimalLaws.{decimal_read, decimal_small, value_from}
use Rattle.text.specs.DigitRuns.{value_ten}
use Rattle.text.specs.Reading.{hits, misses, DigitsEnd, ReadsNatural}

slice_drop : (at e : ℕ) (text : List ℕ) → at ≤ e → e ≤ length text → drop at text ≡ slice at e text ++ drop e text
slice_drop at e text h l =
    ap (drop at) (sym (take-append-drop e text)) ∙ drop-append-le at (take e text) (drop e text) (rw (length-take-le e text l) h)

-- A number's writing with a stop behind it, at a place where digits end at e.
record Run (text : List ℕ) (at e stop m : ℕ) : Type 0 where
  run : slice at e text ≡ decimal m
  stopped : get_or text e 0 ≡ stop
  inside : e < length text

module _ {text : List ℕ} {at e stop : ℕ} (d : DigitsEnd text at e) (low : stop < 48) where
  run_of : (m : ℕ) (rest : List ℕ) → drop at text ≡ decimal m ++ (stop ∷ []) ++ rest → Run text at e stop m
  run_of m rest b = go (dec_lt e (length text))
    where
      w : decimal m ++ (stop ∷ rest) ≡ slice at e text ++ drop e text
      w = sym (append_assoc (decimal m) (stop ∷ []) rest) ∙ sym b ∙ slice_drop at e text d.start d.inside

      go : Dec (e < length text) → Run text at e stop m
      go (yes l) =
          let v : decimal m ++ (stop ∷ rest) ≡ slice at e text ++ (get_or text e 0 ∷ drop (suc e) text) = w ∙ rw (drop-cons text e 0 l) in
          let q = digits_stop (decimal_all_digits m) d.digits (low_stop low) (d.stops l) v in
          let r = q.1 in
          record { run = sym q.0; stopped = cc; inside = l }
      go (no l) =
          let f : e ≡ length text = omega (arith, d.inside) in
          let v : decimal m ++ (stop ∷ rest) ≡ slice at e text = w ∙ rw (f, drop-length text, append-nil) in
          absurd (digits_only d.digits (decimal m) rest (low_stop low) (sym v))

  size_of : (m : ℕ) → Run text at e stop m → length (decimal m) ≡ e - at
  size_of m r = ap length (sym r.run) ∙ length-slice at e text d.inside

  front_of : (m : ℕ) → Run text at e stop m → get_or (decimal m) 0 0 ≡ get_or text at 0
  front_of m r =
      let l : at < e = omega (arith, size_of m r, decimal_some m, d.start) in
      ap (λ (t : List ℕ). get_or t 0 0) (sym r.run ∙ slice-cons at e text 0 l d.inside)

  -- The answers. Nothing is found where the run is empty, too long, or not followed by the stop, or where a zero stands in front.
  miss : {v next : ℕ} → ((m : ℕ) → m ≤ 9999999999 → Run text at e stop m → ⊥) → ReadsNatural text at stop false v next
  miss no_run = misses (λ m rest small b. no_run m small (run_of m rest b))

  pub miss_end : {v next : ℕ} → length text ≤ e → ReadsNatural text at stop false v next
  miss_end l = miss (λ m small r. omega (arith, r.inside))

  pub miss_stop : {v next : ℕ} → (get_or text e 0 ≡ stop → ⊥) → ReadsNatural text at stop false v next
  miss_stop l = miss (λ m small r. l r.stopped)

  pub miss_none : {v next : ℕ} → e ≡ at → ReadsNatural text at stop false v next
  miss_none l = miss (λ m small r. omega (arith, size_of m r, decimal_some m))

  pub miss_long : {v next : ℕ} → 10 < e - at → ReadsNatural text at stop false v next
  miss_long l = miss (λ m small r. omega (arith, size_of m r, decimal_length m 9 (omega arith)))

  pub miss_zero : {v next : ℕ} → get_or text at 0 ≡ 48 → 1 < e - at → ReadsNatural text at stop false v next
  miss_zero z l = miss zero_front
    where
      zero_front : (m : ℕ) → m ≤ 9999999999 → Run text at e stop m → ⊥
      zero_front zero small r = omega (arith, size_of 0 r, ap length (decimal_small 0 (omega arith)))
      zero_front (suc m) small r = omega (arith, front_of (suc m) r, decimal_front (suc m) (omega arith))

  pub hit : (v : ℕ) → v ≡ value_from 0 (slice at e text) → e < length text → get_or text e 0 ≡ stop → at < e → e - at ≤ 10
      → (get_or text at 0 ≡ 48 → e - at ≡ 1) → ReadsNatural text at stop true v (e + 1)
  hit v says l s some few front = hits (omega (arith, value_ten d.digits ten)) (record { inside = omega arith; bytes = bytes })
    where
      size : length (slice at e text) ≡ e - at
      size = length-slice at e text d.inside

      ten : length (slice at e text) ≤ 10
      ten = omega (arith, size)

      first : get_or (slice at e text) 0 0 ≡ get_or text at 0
      first = rw (slice-cons at e text 0 some d.inside)

      is_decimal : decimal v ≡ slice at e text
      is_decimal = rw says (decimal_read d.digits (omega (arith, size)) (λ z. size ∙ front (sym first ∙ z)))

      behind : drop e text ≡ stop ∷ drop (e + 1) text
      behind = rw (add-one, ← s) (drop-cons text e 0 l)

      bytes : drop at text ≡ decimal v ++ (stop ∷ []) ++ drop (e + 1) text
      bytes =
          slice_drop at e text d.start d.inside ∙ rw (behind, ← is_decimal) (sym (append_assoc (decimal v) (stop ∷ []) (drop (e + 1) text)))
