-- Writing bytes into a buffer from a place on: what two writers put one behind the other is put together.
use Rattle.std.specs.Prelude.{◌≡◌, refl, List, [], ◌∷◌, ◌++◌, ℕ, ◌+◌, ◌-◌, ◌*◌, ◌^◌, ◌/◌, ◌%◌, ◌≤◌, ◌<◌, length, get_or, take, set}
use Rattle.std.proofs.Common.{sym, ap, ◌∙◌, append_assoc, append-nil, add-one, arith, length-set, length-append, length-take, length-take-le, take-suc, take-suc-set}
use Rattle.std.proofs.Math.Seq.{take-add}
use Rattle.std.proofs.lemmas.List.{take-append-le}
use Rattle.std.specs.Fmt.{decimal as std_decimal}
use Rattle.std.proofs.lemmas.Fmt.{decimal_by_steps}
use borrow.Rule.Slice.PartMut.{mid_of, post_of, put_mid}
use Rattle.text.specs.Decimal.{decimal}
use Rattle.text.specs.DecimalLaws.{decimal_small, decimal_step, decimal_length}
use Rattle.text.specs.Input.{space, newline}
use Rattle.text.specs.Parts.{take_front, drop_front, put_size}
use Rattle.text.specs.Answer.{items, printed}

-- The bytes w were put from `at` up to `next`; the places before are as they were.
pub record Put (before after : List ℕ) (at next : ℕ) (w : List ℕ) : Type 0 where
  pub size : length after ≡ length before
  pub place : next ≡ at + length w
  pub bytes : take next after ≡ take at before ++ w

pub put_none : (out : List ℕ) (at : ℕ) → Put out out at at []
put_none out at = record { size = refl; place = omega arith; bytes = sym (append-nil (take at out)) }

pub put_one : {before out : List ℕ} {at next : ℕ} {w : List ℕ} (b : ℕ) → Put before out at next w → next < length before
    → Put before (set out next b) at (next + 1) (w ++ (b ∷ []))
put_one {before} {out} {at} {next} {w} b p l =
    let s : next < length out = omega (arith, p.size) in record {
      size = length-set out next b ∙ p.size;
      place = rw length-append (omega (arith, p.place));
      bytes = rw (add-one, take-suc-set out next b s, p.bytes) (append_assoc (take at before) w (b ∷ []));
    }

pub put_then : {a b c : List ℕ} {i j k : ℕ} {w v : List ℕ} → Put a b i j w → Put b c j k v → Put a c i k (w ++ v)
put_then {a} {i = i} {w = w} {v} p q = record {
  size = q.size ∙ p.size;
  place = rw length-append (omega (arith, p.place, q.place));
  bytes = q.bytes ∙ rw p.bytes (append_assoc (take i a) w v);
}

pub take_more : (xs : List ℕ) (j : ℕ) → j < length xs → take (j + 1) xs ≡ take j xs ++ (get_or xs j 0 ∷ [])
take_more xs j l = rw add-one (take-suc xs j 0 l)

-- Bytes that were put at the front of the rest of a buffer were put into the buffer.
pub put_part : {part w : List ℕ} {r : ℕ} (out : List ℕ) (at : ℕ) → at ≤ length out → Put (mid_of at (length out - at) out) part 0 r w
    → Put out (put_mid at (length out - at) out part) at (at + r) w
put_part {part} {w} {r} out at l p =
    let front = length-take-le at out l in
    let back : List ℕ = post_of at (length out - at) out in
    let fits : r ≤ length part = omega (arith, p.place, ap length p.bytes, length-take r part) in record {
      size = put_size at (length out - at) out part l p.size;
      place = omega (arith, p.place);
      bytes =
          rw (
            take-add at r (take at out ++ (part ++ back)),
            take_front (take at out) (part ++ back) front,
            drop_front (take at out) (part ++ back) front,
            take-append-le r part back fits,
          )
          (ap (λ (t : List ℕ). take at out ++ t) p.bytes);
    }

-- ---- one number
-- The last digit behind the others.
pub put_digit : {before out : List ℕ} {at next : ℕ} (n : ℕ) → 10 ≤ n → Put before out at next (decimal (n / 10)) → next < length before
    → Put before (set out next (48 + n % 10)) at (next + 1) (decimal n)
put_digit n l p s = rw (decimal_step n l) (put_one (48 + n % 10) p s)

pub put_small : (out : List ℕ) (at n : ℕ) → n < 10 → at < length out → Put out (set out at (48 + n)) at (at + 1) (decimal n)
put_small out at n l s = rw (decimal_small n l) (put_one (48 + n) (put_none out at) s)

-- A number of 32 bits has at most ten digits.
pub ten_digits : (n : ℕ) → n < 2 ^ 32 → length (decimal n) ≤ 10
ten_digits n l = decimal_length n 9 (omega arith)

-- The library writes the same digits.
pub same_decimal : (n : ℕ) → n < 2 ^ 64 → decimal n ≡ std_decimal n
same_decimal = decimal_by_steps
    (λ n digits. decimal n ≡ digits)
    (λ n l. decimal_small n l)
    (λ n digits l e. decimal_step n l ∙ ap (λ (t : List ℕ). t ++ ((48 + n % 10) ∷ [])) e)

-- ---- numbers with a space in front of each
items_more : (xs : List ℕ) (x : ℕ) → items (xs ++ (x ∷ [])) ≡ items xs ++ (space ∷ decimal x)
unfolding items
items_more [] x = append-nil (space ∷ decimal x)
items_more (y ∷ xs) x = rw (items_more xs x) (sym (append_assoc (space ∷ decimal y) (items xs) (space ∷ decimal x)))

-- A space and a number behind what was put.
pub put_item : {before out after : List ℕ} {at next next' : ℕ} (xs : List ℕ) (x : ℕ) → Put before out at next (items xs) → next < length before
    → Put (set out next space) after (next + 1) next' (decimal x) → Put before after at next' (items (xs ++ (x ∷ [])))
put_item xs x p l q =
    rw (items_more xs x, ← append_assoc (items xs) (space ∷ []) (decimal x)) (put_then (put_one space p l) q)

-- What writing n numbers promises: they were put, and took at most eleven places each.
pub record PutItems (before after : List ℕ) (at next n : ℕ) (numbers : List ℕ) : Type 0 where
  pub put : Put before after at next (items (take n numbers))
  pub short : next ≤ at + 11 * n

pub items_none : (out numbers : List ℕ) (at : ℕ) → PutItems out out at at 0 numbers
unfolding items
items_none out numbers at = record { put = put_none out at; short = omega arith }

pub items_next : {a b c numbers : List ℕ} {at next next' j : ℕ} → PutItems a b at next j numbers → j < length numbers → get_or numbers j 0 < 2 ^ 32
    → next < length a → Put (set b next space) c (next + 1) next' (decimal (get_or numbers j 0)) → PutItems a c at next' (j + 1) numbers
items_next {numbers = numbers} {j = j} p l few room q = record {
  put = rw (take_more numbers j l) (put_item (take j numbers) (get_or numbers j 0) p.put room q);
  short = omega (arith, p.short, q.place, ten_digits (get_or numbers j 0) few);
}

pub items_part : {part numbers : List ℕ} {r n : ℕ} (out : List ℕ) (at : ℕ) → at ≤ length out
    → PutItems (mid_of at (length out - at) out) part 0 r n numbers → PutItems out (put_mid at (length out - at) out part) at (at + r) n numbers
items_part out at l p = record { put = put_part out at l p.put; short = omega (arith, p.short) }

-- What writing a line of n numbers promises.
pub record PutLine (before after : List ℕ) (at next : ℕ) (word : List ℕ) (n : ℕ) (numbers : List ℕ) : Type 0 where
  pub put : Put before after at next (printed word (take n numbers))
  pub short : next ≤ at + (length word + (11 * n + 1))

pub put_line : {a b c : List ℕ} {at i j : ℕ} {word : List ℕ} {n : ℕ} {numbers : List ℕ} → Put a b at i word → PutItems b c i j n numbers
    → j < length a → PutLine a (set c j newline) at (j + 1) word n numbers
unfolding printed
put_line {word = word} {n} {numbers} p q l = record {
  put = rw (← append_assoc word (items (take n numbers)) (newline ∷ [])) (put_one newline (put_then p q.put) l);
  short = omega (arith, p.place, q.short);
}

pub line_part : {part word numbers : List ℕ} {r n : ℕ} (out : List ℕ) (at : ℕ) → at ≤ length out
    → PutLine (mid_of at (length out - at) out) part 0 r word n numbers → PutLine out (put_mid at (length out - at) out part) at (at + r) word n numbers
line_part out at l p = record { put = put_part out at l p.put; short = omega (arith, p.short) }

-- The first r bytes of the buffer are the text.
pub record Printed (out : List ℕ) (r : ℕ) (text : List ℕ) : Type 0 where
  pub inside : r ≤ length out
  pub bytes : take r out ≡ text

pub printed_of : {before after text : List ℕ} {r : ℕ} → Put before after 0 r text → r ≤ length before → Printed after r text
printed_of p l = record { inside = omega (arith, p.size); bytes = p.bytes }
