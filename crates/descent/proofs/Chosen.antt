-- The lesser and the greater of two stored numbers, as the library chooses them.
use Rattle.std.specs.Prelude.{◌≡◌, refl, Bool, true, false, ◌<◌, ℤ}
use Rattle.std.proofs.Common.{sym, ◌∙◌}
use Rattle.std.specs.Int.{int_min, int_max}
use Rattle.std.specs.Int.Signed.{lt_z}
use lib.Signed.{mag}
use mir.Syntax.{w32}
use mir.Val.{SFits, to_z, of_z}
use mir.Facts.{to_z-of_z}
use borrow.Author.Rules.{sfits_of}
use Rattle.whole.specs.Order.{lesser, greater}
use Rattle.whole.proofs.Order.{le_of_lt, lt_z_lt, lt_z_ge, greater_eq_left, greater_eq_right}

max_greater : (a b : ℤ) → int_max a b ≡ greater a b
max_greater a b = go (lt_z b a) refl
  where
    go : (t : Bool) → lt_z b a ≡ t → int_max a b ≡ greater a b
    go true e = rw e (sym (greater_eq_left (le_of_lt (lt_z_lt e))))
    go false e = rw e (sym (greater_eq_right (lt_z_ge e)))

module _ {a b m : ℤ} (a_fits : SFits w32 a) (b_fits : SFits w32 b) (m_fits : mag m < 2147483648) where
  pub lesser_stored : m ≡ int_min (to_z w32 (of_z w32 a)) (to_z w32 (of_z w32 b)) → to_z w32 (of_z w32 m) ≡ lesser a b
  unfolding lesser
  lesser_stored e = to_z-of_z {w = w32} (sfits_of {w = w32} m_fits) ∙ rw (to_z-of_z {w = w32} a_fits, to_z-of_z {w = w32} b_fits) at e

  pub greater_stored : m ≡ int_max (to_z w32 (of_z w32 a)) (to_z w32 (of_z w32 b)) → to_z w32 (of_z w32 m) ≡ greater a b
  greater_stored e = to_z-of_z {w = w32} (sfits_of {w = w32} m_fits) ∙ rw (to_z-of_z {w = w32} a_fits, to_z-of_z {w = w32} b_fits) at e ∙ max_greater a b
