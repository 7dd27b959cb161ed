-- A branch as a value: what its numbers and its box say.
use Rattle.std.specs.Prelude.{◌≡◌, ℕ}
use Rattle.terms.specs.Box.{Box}

-- A branch from slot a on, with c slots, whose node splits on dimension s, with box b: so the value with these numbers says.
pub record Child (a c s : ℕ) (b : Box) (start size split : ℕ) (box : Box) : Type 0 where
  pub starts : start ≡ a
  pub slots : size ≡ c
  pub splits : split ≡ s
  pub in_box : box ≡ b
