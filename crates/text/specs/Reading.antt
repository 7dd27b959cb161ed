-- What the reading functions promise.
use Rattle.std.specs.Prelude.{◌≡◌, refl, Bool, true, false, List, [], ◌∷◌, ◌++◌, ℕ, ◌≤◌, ◌<◌, length, get_or, drop, ℤ}
use Rattle.std.proofs.Common.{sym, ◌∙◌, append_assoc}
use Rattle.std.proofs.Math.Seq.{slice}
use Rattle.whole.specs.Parts.{up, dn}
use Rattle.theory.specs.Flags.{clash}
use Rattle.text.specs.Decimal.{decimal, written}
use Rattle.text.specs.DecimalLaws.{Digits, NoDigit}

-- The bytes w stand in the text from `at` up to `next`.
pub record Stands (text : List ℕ) (at next : ℕ) (w : List ℕ) : Type 0 where
  pub inside : next ≤ length text
  pub bytes : drop at text ≡ w ++ drop next text

pub stands_none : {text : List ℕ} {at : ℕ} → at ≤ length text → Stands text at at []
stands_none l = record { inside = l; bytes = refl }

pub stands_then : {text w v : List ℕ} {a b c : ℕ} → Stands text a b w → Stands text b c v → Stands text a c (w ++ v)
stands_then {text} {w} {v} {c = c} s t = record {
  inside = t.inside;
  bytes = s.bytes ∙ rw t.bytes (sym (append_assoc w v (drop c text)));
}

-- What a reading function promises. Either it found an allowed value whose writing stands at its place, or no allowed value's writing begins there.
pub record Reads {A : Type 0} (Allowed : A → Type 0) (writing : A → List ℕ) (text : List ℕ) (at : ℕ) (ok : Bool) (value : A) (next : ℕ) : Type 0 where
  pub allowed : ok ≡ true → Allowed value
  pub found : ok ≡ true → Stands text at next (writing value)
  pub missed : ok ≡ false → (a : A) (rest : List ℕ) → Allowed a → drop at text ≡ writing a ++ rest → ⊥

pub hits : {A : Type 0} {Allowed : A → Type 0} {writing : A → List ℕ} {text : List ℕ} {at : ℕ} {value : A} {next : ℕ}
    → Allowed value → Stands text at next (writing value) → Reads Allowed writing text at true value next
hits a s = record { allowed = λ _. a; found = λ _. s; missed = λ n. clash refl n }

pub misses : {A : Type 0} {Allowed : A → Type 0} {writing : A → List ℕ} {text : List ℕ} {at : ℕ} {value : A} {next : ℕ}
    → ((a : A) (rest : List ℕ) → Allowed a → drop at text ≡ writing a ++ rest → ⊥) → Reads Allowed writing text at false value next
misses m = record { allowed = λ n. clash n refl; found = λ n. clash n refl; missed = λ _. m }

-- The digits that start at `at` end at e.
pub record DigitsEnd (text : List ℕ) (at e : ℕ) : Type 0 where
  pub start : at ≤ e
  pub inside : e ≤ length text
  pub digits : Digits (slice at e text)
  pub stops : e < length text → NoDigit (get_or text e 0)

-- A natural number of at most ten digits with a byte behind it.
abbrev pub ReadsNatural : List ℕ → ℕ → ℕ → Bool → ℕ → ℕ → Type 0
ReadsNatural text at stop ok value next = Reads (λ m. m ≤ 9999999999) (λ m. decimal m ++ (stop ∷ [])) text at ok value next

-- A natural number from least to greatest.
pub record Size (least greatest m : ℕ) : Type 0 where
  pub enough : least ≤ m
  pub most : m ≤ greatest

-- Such a number with a byte behind it.
abbrev pub ReadsSize : List ℕ → ℕ → ℕ → ℕ → ℕ → Bool → ℕ → ℕ → Type 0
ReadsSize text at stop least greatest ok value next = Reads (Size least greatest) (λ m. decimal m ++ (stop ∷ [])) text at ok value next

-- A number from -deepest to greatest.
pub record InRange (deepest greatest : ℕ) (z : ℤ) : Type 0 where
  pub down : dn z ≤ deepest
  pub upward : up z ≤ greatest

-- Such a number with a byte behind it.
abbrev pub ReadsNumber : List ℕ → ℕ → ℕ → ℕ → ℕ → Bool → ℤ → ℕ → Type 0
ReadsNumber text at stop deepest greatest ok value next =
    Reads (InRange deepest greatest) (λ z. written z ++ (stop ∷ [])) text at ok value next

-- A place where a number that is not negative may be read.
pub record NoSign (text : List ℕ) (at stop greatest : ℕ) : Type 0 where
  pub low : stop < 48
  pub inside : at < length text
  pub plain : get_or text at 0 ≡ 45 → ⊥
  pub most : greatest ≤ 9999999999

-- A place where a negative number may be read.
pub record Sign (text : List ℕ) (at stop deepest : ℕ) : Type 0 where
  pub low : stop < 48
  pub inside : at < length text
  pub minus : get_or text at 0 ≡ 45
  pub most : deepest ≤ 9999999999
