-- A region says the same of two points with the same first k coordinates: a sum of products reads no others.
use Rattle.std.specs.Prelude.{◌≡◌, ℕ, ◌≤◌, ◌<◌, ℤ, ◌*ℤ◌}
use Rattle.std.proofs.Common.{sym, arith}
use Rattle.std.proofs.Math.Path.{ap, fun_ext}
use Rattle.whole.specs.IndexedSum.{sum_to}
use Rattle.whole.proofs.IndexedSum.{sum_same}
use Rattle.terms.specs.Tests.{all_to}
use Rattle.terms.specs.Box.{Box}
use Rattle.terms.specs.Region.{Region, above_at, above, inside}
use Rattle.theory.specs.Tested.{Coordinates}
use Rattle.theory.specs.Boxes.{In}

-- The two points have the same first k coordinates.
pub record SamePoint (k : ℕ) (x y : ℕ → ℤ) : Type 0 where
  pub same : (d : ℕ) → d < k → x d ≡ y d

pub same_point_sym : {k : ℕ} {x y : ℕ → ℤ} → SamePoint k x y → SamePoint k y x
same_point_sym s = record { same = λ d l. sym (s.same d l) }

-- Then they have the same first k for every smaller k.
pub same_point_fewer : {k m : ℕ} {x y : ℕ → ℤ} → k ≤ m → SamePoint m x y → SamePoint k x y
same_point_fewer l s = record { same = λ d m. s.same d (omega arith) }

-- They lie in the same boxes.
pub in_same_point : {k : ℕ} {b : Box} {x y : ℕ → ℤ} → SamePoint k x y → In k b x → In k b y
in_same_point s w = record { least = λ d l. rw (s.same d l) at (w.least d l); most = λ d l. rw (s.same d l) at (w.most d l) }

-- Both are in range, or neither.
pub ranges_same_point : {k : ℕ} {x y : ℕ → ℤ} → SamePoint k x y → Coordinates k y → Coordinates k x
ranges_same_point s w = record { ranges = λ d l. rw (s.same d l) (w.ranges d l) }

-- Their sums of products are the same.
pub sum_same_point : {k : ℕ} {x y : ℕ → ℤ} → SamePoint k x y → (component : ℕ → ℤ) → sum_to k (λ d. component d *ℤ x d) ≡ sum_to k (λ d. component d *ℤ y d)
sum_same_point {k} s component = sum_same k _ _ (λ d l. ap (λ (z : ℤ). component d *ℤ z) (s.same d l))

module _ (g : Region) {x y : ℕ → ℤ} (s : SamePoint g.k x y) where
  -- They are above the same faces.
  pub above_same_point : (i : ℕ) → above g i x ≡ above g i y
  above_same_point i = ap (above_at g i) (sum_same_point s (g.component i))

  -- Both are inside, or neither.
  pub inside_same_point : inside g x ≡ inside g y
  unfolding inside
  inside_same_point = ap (all_to g.h) (fun_ext above_same_point)
