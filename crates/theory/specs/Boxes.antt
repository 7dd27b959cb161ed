-- A point in a box, a box in a box, a run whose points all lie in a box: said of the first k dimensions only, and of no region.
use Rattle.std.specs.Prelude.{◌≡◌, List, ℕ, ◌<◌, length, get_or, ℤ, ◌≤ℤ◌}
use Rattle.std.proofs.Common.{sym, ◌∙◌}
use Rattle.whole.proofs.Order.{le_refl, le_trans, le_of_eq}
use Rattle.terms.specs.Box.{Box}

-- The point lies in the box.
pub record In (k : ℕ) (b : Box) (point : ℕ → ℤ) : Type 0 where
  pub least : (d : ℕ) → d < k → b.low d ≤ℤ point d
  pub most : (d : ℕ) → d < k → point d ≤ℤ b.high d

-- The inner box lies within the outer one.
pub record Nested (k : ℕ) (inner outer : Box) : Type 0 where
  pub least : (d : ℕ) → d < k → outer.low d ≤ℤ inner.low d
  pub most : (d : ℕ) → d < k → inner.high d ≤ℤ outer.high d

-- The two boxes have the same corners.
pub record Alike (k : ℕ) (b c : Box) : Type 0 where
  pub lows : (d : ℕ) → d < k → b.low d ≡ c.low d
  pub highs : (d : ℕ) → d < k → b.high d ≡ c.high d

-- Every point of the run lies in the box.
pub record Held (k : ℕ) (at : ℕ → ℕ → ℤ) (b : Box) (run : List ℕ) : Type 0 where
  pub each : (i : ℕ) → i < length run → In k b (at (get_or run i 0))

-- A point is the box whose rows are both the point.
abbrev pub dot : (ℕ → ℤ) → Box
dot point = record { low = point; high = point }

pub in_nested : {k : ℕ} {b : Box} {point : ℕ → ℤ} → In k b point → Nested k (dot point) b
in_nested w = record { least = w.least; most = w.most }

pub nested_self : (k : ℕ) (b : Box) → Nested k b b
nested_self k b = record { least = λ d l. le_refl (b.low d); most = λ d l. le_refl (b.high d) }

pub nested_trans : {k : ℕ} {a b c : Box} → Nested k a b → Nested k b c → Nested k a c
nested_trans v w = record { least = λ d l. le_trans (w.least d l) (v.least d l); most = λ d l. le_trans (v.most d l) (w.most d l) }

pub alike_sym : {k : ℕ} {b c : Box} → Alike k b c → Alike k c b
alike_sym s = record { lows = λ d l. sym (s.lows d l); highs = λ d l. sym (s.highs d l) }

pub alike_trans : {k : ℕ} {a b c : Box} → Alike k a b → Alike k b c → Alike k a c
alike_trans s t = record { lows = λ d l. s.lows d l ∙ t.lows d l; highs = λ d l. s.highs d l ∙ t.highs d l }

pub alike_nested : {k : ℕ} {b c : Box} → Alike k b c → Nested k b c
alike_nested s = record { least = λ d l. le_of_eq (sym (s.lows d l)); most = λ d l. le_of_eq (s.highs d l) }
