-- The range test as the machine makes it, for numbers of any width: what it reads back is what was lent. A number against its least and its most, as two
-- comparisons find it. And a loop that asks every item of a list.
use Rattle.std.specs.Prelude.{◌≡◌, Bool, true, false, ◌&&◌, not, List, ℕ, ◌+◌, ◌≤◌, ◌<◌, length, get_or, take, ℤ, leb}
use Rattle.std.proofs.Common.{sym, ap, ◌∙◌, le-leb, SFits, to_z, of_z, to_z-of_z}
use Rattle.std.proofs.Math.Seq.{take-length}
use Rattle.std.specs.Int.Signed.{lt_z, le_z}
use Rattle.std.proofs.lemmas.Bool.{lt-leb}
use Rattle.std.specs.Int.{Width}
use Rattle.whole.proofs.Parts.{flags}
use Rattle.terms.specs.Tests.{every}
use Rattle.terms.specs.Points.{within}
use Rattle.theory.specs.Flags.{and_yes, and_no}
use Rattle.theory.specs.Counting.{every_next}

module _ {w : Width} {x least greatest : ℤ} (fx : SFits w x) (fl : SFits w least) (fg : SFits w greatest) where
  pub below_range : lt_z (to_z w (of_z w x)) (to_z w (of_z w least)) ≡ true → false ≡ within least greatest x
  below_range e =
      let t : lt_z x least ≡ true = rw (to_z-of_z fx, to_z-of_z fl) at e in
      let u : le_z least x ≡ false = omega flags in
      rw u

  pub above_least : lt_z (to_z w (of_z w x)) (to_z w (of_z w least)) ≡ false
      → le_z (to_z w (of_z w x)) (to_z w (of_z w greatest)) ≡ within least greatest x
  above_least e =
      let t : lt_z x least ≡ false = rw (to_z-of_z fx, to_z-of_z fl) at e in
      let u : le_z least x ≡ true = omega flags in
      rw (to_z-of_z fx, to_z-of_z fg, u)

-- Below the least, above the most, and from the one to the other.
module _ (least most m : ℕ) where
  pub too_few : m < least → not (leb least m && leb m most) ≡ true
  too_few l = rw (lt-leb least m l)

  pub too_many : least ≤ m → most < m → not (leb least m && leb m most) ≡ true
  too_many l k = rw (le-leb least m l, lt-leb m most k)

  pub neither : least ≤ m → m ≤ most → not (leb least m && leb m most) ≡ false
  neither l k = rw (le-leb least m l, le-leb m most k)

-- Of the first i items, all says whether every one passes the test.
pub record Through {A : Type 0} (test : A → Bool) (xs : List A) (i : ℕ) (all : Bool) : Type 0 where
  pub so_far : all ≡ every test (take i xs)

module _ {A : Type 0} (z : A) {test : A → Bool} {xs : List A} {i : ℕ} {all : Bool} (t : Through test xs i all) where
  pub through_passed : i < length xs → test (get_or xs i z) ≡ true → Through test xs (i + 1) all
  through_passed l p = record { so_far = t.so_far ∙ sym (every_next test z xs i l ∙ and_yes (every test (take i xs)) p) }

  pub through_failed : i < length xs → test (get_or xs i z) ≡ false → Through test xs (i + 1) false
  through_failed l p = record { so_far = sym (every_next test z xs i l ∙ and_no (every test (take i xs)) p) }

-- One item more, whichever way it answers.
pub through_more : {A : Type 0} (z : A) {test : A → Bool} {xs : List A} {i : ℕ} {all : Bool} → Through test xs i all → i < length xs
    → Through test xs (i + 1) (all && test (get_or xs i z))
through_more z {test} {xs} {i} t l = record { so_far = rw t.so_far (sym (every_next test z xs i l)) }

pub through_all : {A : Type 0} {test : A → Bool} {xs : List A} {i : ℕ} {all : Bool} → Through test xs i all → i ≡ length xs → all ≡ every test xs
through_all {A} {test} {xs} t e = t.so_far ∙ ap (λ (ys : List A). every test ys) (ap (λ (n : ℕ). take n xs) e ∙ take-length xs)
