-- The branch boxes of a run depend on the run's own box below dimension k only: a branch's box takes over what its parent's has there.
-- So a test that answers alike for boxes with the same corners gives the same answer at every slot.
use Rattle.std.specs.Prelude.{◌≡◌, Bool}
use Rattle.std.proofs.Math.Path.{refl}
use Rattle.std.proofs.Common.{sym, ap, ◌∙◌}
use mathlib.Core.List.{List, [], ◌∷◌, map, map-append}
use Prim.Native.Nat.{ℕ, zero, suc}
use Rattle.std.proofs.Math.IntN.{ℤ}
use Rattle.terms.specs.Tests.{count}
use Rattle.terms.specs.Run.{axis, node, lefts, rights}
use Rattle.terms.specs.Box.{Box, left_box, boxes}
use Rattle.terms.specs.Region.{Region, is_open}
use Rattle.theory.specs.Counting.{count_map}
use Rattle.theory.specs.Boxes.{Alike}
use Rattle.theory.specs.BoxLaws.{left_alike, right_alike}
use Rattle.theory.specs.Nesting.{open_alike}

module _ (k : ℕ) (at : ℕ → ℕ → ℤ) (test : Box → Bool) (answers : (b c : Box) → Alike k b c → test b ≡ test c) where
  -- Slot by slot.
  pub tests_alike : (f j : ℕ) (run : List ℕ) {b c : Box} → Alike k b c → map test (boxes f k at j run b) ≡ map test (boxes f k at j run c)
  unfolding boxes
  tests_alike zero j run same = refl
  tests_alike (suc f) j [] same = refl
  tests_alike (suc f) j (x ∷ xs) {b} {c} same =
      let run : List ℕ = x ∷ xs in
      let s : ℕ = axis k j in
      let v : ℤ = at (node run) s in
      rw (
        map-append test (boxes f k at (suc j) (lefts run) (left_box b s v)),
        map-append test (boxes f k at (suc j) (lefts run) (left_box c s v)),
        tests_alike f (suc j) (lefts run) (left_alike same s v),
        tests_alike f (suc j) (rights run) (right_alike same s v),
        answers b c same,
      )

-- As many slots are open.
pub opens_alike : (f : ℕ) (g : Region) (at : ℕ → ℕ → ℤ) (j : ℕ) (run : List ℕ) {b c : Box} → Alike g.k b c
    → count (is_open g) (boxes f g.k at j run b) ≡ count (is_open g) (boxes f g.k at j run c)
opens_alike f g at j run {b} {c} same =
    sym (count_map (λ t. t) (is_open g) (boxes f g.k at j run b))
    ∙ ap (count (λ t. t)) (tests_alike g.k at (is_open g) (λ b c. open_alike g) f j run same)
    ∙ count_map (λ t. t) (is_open g) (boxes f g.k at j run c)
