-- What the code's test of a margin says: at least the mark is 0 or more for a closed face, and more than 0 for an open one. And that a margin fits.
use Rattle.std.specs.Prelude.{◌≡◌, refl, Bool, cond, ℕ, zero, suc, ◌≤◌, eqb, ℤ, pos, negsuc, nat_abs, ◌-ℤ◌}
use Rattle.std.proofs.Common.{sym, ap, ◌∙◌, arith, SFits, to_z}
use Rattle.std.specs.Int.Signed.{le_z, lt_z}
use Rattle.std.specs.Int.{w64}
use Rattle.whole.proofs.Parts.{ints, flags, abs_parts}
use Rattle.whole.proofs.Fits.{fits_dif}
use Rattle.terms.specs.Region.{Region, above_at}
use Rattle.theory.specs.Flags.{same_test}
use Rattle.theory.specs.Tested.{Between}
use Rattle.theory.specs.Margins.{above_by, above_by_margin}

-- A sum of products less an offset fits.
pub margin_fits : (v z : ℤ) → nat_abs v ≤ 4294836224 → Between (negsuc 8589934591) z (pos 8589934592) → SFits w64 (v -ℤ z)
margin_fits v z l r = fits_dif v z 4294836224 8589934592 l (omega (ints, abs_parts z)) tt

-- At least the mark: more than 0 where it is 1, 0 or more where it is 0.
pub at_least_mark : (m : ℤ) (mark : ℕ) → mark ≤ 1 → le_z (to_z w64 mark) m ≡ cond (eqb mark 1) (lt_z (pos 0) m) (le_z (pos 0) m)
at_least_mark m zero l = refl
at_least_mark m (suc zero) l = same_test (λ e. omega flags) (λ e. omega flags)
at_least_mark m (suc (suc mark)) l = absurd (omega arith)

-- A test that says whether a margin is above a face says whether the sum is.
pub margin_above : (g : Region) (i : ℕ) (v : ℤ) {t : Bool} {m : ℤ} → t ≡ above_by g i m → m ≡ v -ℤ g.offset i → t ≡ above_at g i v
margin_above g i v e q = e ∙ ap (above_by g i) q ∙ sym (above_by_margin g i v)
