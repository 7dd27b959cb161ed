-- Runs of digits in a text: a run grows by one byte at its end, and is read from its front.
use Rattle.std.specs.Prelude.{◌≡◌, List, [], ◌∷◌, ◌++◌, ℕ, zero, suc, ◌+◌, ◌-◌, ◌*◌, ◌^◌, ◌≤◌, ◌<◌, length, get_or, take, drop}
use Rattle.std.proofs.Math.Nat.{pow-le-pow_right}
use Rattle.std.proofs.Common.{add-one, arith, get_or-drop, length-drop, length-take-le, take-suc}
use Rattle.std.specs.List.{AllWithin}
use Rattle.std.proofs.Math.Seq.{slice, slice_empty, slice-cons}
use Rattle.std.proofs.lemmas.List.{drop-append-le, drop-take}
use Rattle.text.specs.DecimalLaws.{Digits, NoDigit, none, more, digits_append, value_from, value_bound, value_grows}
use Rattle.text.specs.Reading.{DigitsEnd}

pub slice_more : (at e : ℕ) (text : List ℕ) → at ≤ e → e < length text → slice at (e + 1) text ≡ slice at e text ++ (get_or text e 0 ∷ [])
slice_more at e text h l =
    let s : at ≤ length (take e text) = rw (length-take-le e text (omega arith)) h in
    rw (add-one, take-suc text e 0, drop-append-le at (take e text) (get_or text e 0 ∷ []) s)

-- A run with one more digit.
pub digits_longer : (at e : ℕ) (text : List ℕ) → at ≤ e → e < length text → Digits (slice at e text) → 48 ≤ get_or text e 0 → get_or text e 0 ≤ 57
    → Digits (slice at (e + 1) text)
digits_longer at e text h l d p q = rw (slice_more at e text h l) (digits_append d (more p q none))

-- A run of digits, as the first bytes of the rest of the text.
pub slice_front : (at e : ℕ) (text : List ℕ) → at ≤ e → take (e - at) (drop at text) ≡ slice at e text
slice_front at e text h =
    let size : at + (e - at) ≡ e = omega arith in
    rw (← drop-take at (e - at) text, size)

-- A byte is a digit.
abbrev pub Digit : ℕ → Type 0
Digit byte = (48 ≤ byte) × (byte ≤ 57)

-- The first bytes of the rest, if each is a digit.
digits_front : (at count : ℕ) (text : List ℕ) → at ≤ length text → count ≤ length text - at → AllWithin Digit (drop at text) 0 count
    → Digits (slice at (at + count) text)
digits_front at zero text h l each =
    let end : at + 0 ≡ at = omega arith in
    rw (end, slice_empty at text) none
digits_front at (suc count) text h l each =
    let end : at + suc count ≡ at + count + 1 = omega arith in
    let digit : Digit (get_or text (at + count) 0) = rw get_or-drop at (each count 0 (omega arith) (omega arith)) in
    let front = digits_front at count text h (omega arith) (λ i d a b. each i d a (omega arith)) in
    rw end (digits_longer at (at + count) text (omega arith) (omega arith) front digit.0 digit.1)

-- Digits up to a byte that is none.
pub digits_to : (at count : ℕ) (text : List ℕ) → at ≤ length text → count < length (drop at text) → AllWithin Digit (drop at text) 0 count
    → NoDigit (get_or (drop at text) count 0) → DigitsEnd text at (at + count)
digits_to at count text h l each other = record {
  start = omega arith;
  inside = omega (arith, length-drop at text);
  digits = digits_front at count text h (omega (arith, length-drop at text)) each;
  stops = λ l. rw get_or-drop at other;
}

-- Digits up to the end of the text.
pub digits_through : (at : ℕ) (text : List ℕ) → at ≤ length text → AllWithin Digit (drop at text) 0 (length (drop at text)) → DigitsEnd text at (length text)
digits_through at text h each =
    let size : at + length (drop at text) ≡ length text = omega (arith, length-drop at text) in record {
      start = h;
      inside = omega arith;
      digits = rw size at (digits_front at (length (drop at text)) text h (omega (arith, length-drop at text)) each);
      stops = λ l. absurd (omega arith);
    }

-- The value of a run of at most ten digits.
pub value_ten : {ds : List ℕ} → Digits ds → length ds ≤ 10 → value_from 0 ds ≤ 9999999999
value_ten {ds} d l =
    let p : 10 ^ length ds ≤ 10 ^ 10 = pow-le-pow_right (omega arith) l in
    omega (arith, value_bound 0 d)

-- What is known when a run has been read up to i with value v, and byte b stands at i: the same at i + 1.
pub record Turn (text : List ℕ) (i e v b whole : ℕ) : Type 0 where
  pub low : 48 ≤ b
  pub high : b ≤ 57
  pub digits : Digits (slice (i + 1) e text)
  pub says : value_from (v * 10 + (b - 48)) (slice (i + 1) e text) ≡ whole
  pub most : v * 10 + (b - 48) ≤ whole

turn_of : (text : List ℕ) (i e v b whole : ℕ) → Digits (b ∷ slice (i + 1) e text)
    → value_from v (b ∷ slice (i + 1) e text) ≡ whole → Turn text i e v b whole
unfolding value_from
turn_of text i e v b whole (more l g d) s = record {
  low = l;
  high = g;
  digits = d;
  says = s;
  most = omega (arith, value_grows (v * 10 + (b - 48)) (slice (i + 1) e text));
}

pub turn : (text : List ℕ) (i e v whole : ℕ) → i < e → e ≤ length text → Digits (slice i e text) → value_from v (slice i e text) ≡ whole
    → Turn text i e v (get_or text i 0) whole
turn text i e v whole l h d s =
    let c : slice i e text ≡ get_or text i 0 ∷ slice (i + 1) e text = rw add-one (slice-cons i e text 0 l h) in
    turn_of text i e v (get_or text i 0) whole (rw c at d) (rw c at s)
