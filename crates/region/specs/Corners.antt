-- The corner that the signs of a face's components choose from two rows.
use Rattle.std.specs.Prelude.{◌≡◌, refl, true, false, ℕ, ℤ, pos, negsuc}
use Rattle.std.specs.Int.Signed.{le_z}
use Rattle.whole.proofs.Parts.{flags}
use Rattle.terms.specs.Region.{by_sign}
use Rattle.theory.specs.Flags.{clash}
use Rattle.theory.specs.Tested.{Between, Coordinates}

-- In each dimension the first row where the component is 0 or more, else the second.
abbrev pub corner : (ℕ → ℤ) → (ℕ → ℤ) → (ℕ → ℤ) → ℕ → ℤ
corner first second normal d = by_sign (normal d) (first d) (second d)

-- What the code's test of a component chooses.
pub first_by_sign : (c a b : ℤ) → le_z (pos 0) c ≡ true → a ≡ by_sign c a b
first_by_sign (pos c) a b e = refl
first_by_sign (negsuc c) a b e = clash e refl

pub second_by_sign : (c a b : ℤ) → le_z (pos 0) c ≡ false → b ≡ by_sign c a b
second_by_sign (pos c) a b e = absurd (omega flags)
second_by_sign (negsuc c) a b e = refl

-- A corner of rows in range is in range.
pub corner_ranges : {k : ℕ} {first second : ℕ → ℤ} → Coordinates k first → Coordinates k second → (normal : ℕ → ℤ)
    → Coordinates k (corner first second normal)
corner_ranges p q normal = record { ranges = λ d l. go (normal d) (p.ranges d l) (q.ranges d l) }
  where
    go : (c : ℤ) {a b : ℤ} → Between (negsuc 32767) a (pos 32767) → Between (negsuc 32767) b (pos 32767)
        → Between (negsuc 32767) (by_sign c a b) (pos 32767)
    go (pos c) r s = r
    go (negsuc c) r s = s
