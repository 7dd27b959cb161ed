-- Two lists of lent points that have the same coordinates at every number that belongs: they are in range alike, and alike they take a new point.
use Rattle.std.specs.Prelude.{◌≡◌, Bool, true, List, ℕ, ◌+◌, ◌*◌, ◌≤◌, ◌<◌, length, set, ℤ}
use Rattle.std.proofs.Common.{sym, ap, ◌∙◌, arith}
use Rattle.std.proofs.Math.Decide.{ℕ_discrete}
use Rattle.terms.specs.Points.{coord, is_coordinate}
use Rattle.terms.specs.Live.{is_live}
use Rattle.terms.specs.LivePoints.{members_in_range, point_written}
use Rattle.theory.specs.Flags.{same_test}
use Rattle.theory.specs.AllAndAny.{all_same}
use Rattle.theory.specs.PointsAlike.{SamePoint, same_point_sym}
use Rattle.theory.specs.PointsInRange.{in_range_each, each_in_range}
use Rattle.theory.specs.PointWritten.{written_length, written_here, written_elsewhere}
use Rattle.theory.specs.LiveNumbers.{others_live}

-- As many coordinates are lent, and each number that belongs has the same.
pub record MembersAlike (k : ℕ) (belongs : ℕ → Bool) (points others : List ℤ) : Type 0 where
  pub sizes : length points ≡ length others
  pub same : (p : ℕ) → belongs p ≡ true → SamePoint k (coord k points p) (coord k others p)

pub members_alike_sym : {k : ℕ} {belongs : ℕ → Bool} {points others : List ℤ} → MembersAlike k belongs points others → MembersAlike k belongs others points
members_alike_sym w = record { sizes = sym w.sizes; same = λ p e. same_point_sym (w.same p e) }

-- Where the points of the one are in range, so are those of the other.
other_in_range : {k : ℕ} {belongs : ℕ → Bool} {points others : List ℤ} → MembersAlike k belongs points others → (m : ℕ)
    → members_in_range k (coord k points) belongs m ≡ true → members_in_range k (coord k others) belongs m ≡ true
other_in_range {k} {belongs} {points} {others} w m e = each_in_range k (coord k others) belongs m
    (λ p l b. all_same k _ _ (λ d f. ap is_coordinate (sym ((w.same p b).same d f))) ∙ in_range_each k (coord k points) belongs m e p l b)

pub in_range_alike : {k : ℕ} {belongs : ℕ → Bool} {points others : List ℤ} → MembersAlike k belongs points others → (m : ℕ)
    → members_in_range k (coord k points) belongs m ≡ members_in_range k (coord k others) belongs m
in_range_alike w m = same_test (other_in_range w m) (other_in_range (members_alike_sym w) m)

-- With a point written at number p, which is live from then on, they are alike at every live number.
pub written_alike : (k n : ℕ) (live : List ℕ) {points others : List ℤ} → MembersAlike k (is_live n live) points others
    → (p : ℕ) (point : List ℤ) → length point ≡ k → p * k + k ≤ length points
    → MembersAlike k (is_live n (set live p 1)) (point_written k points p point) (point_written k others p point)
written_alike k n live {points} {others} w p point size room = record {
  sizes = written_length k points p point size room ∙ w.sizes ∙ sym (written_length k others p point size there);
  same = λ q e. record { same = λ d l. go q e d l (ℕ_discrete q p) };
}
  where
    there : p * k + k ≤ length others
    there = omega (arith, w.sizes)

    go : (q : ℕ) → is_live n (set live p 1) q ≡ true → (d : ℕ) → d < k → Dec (q ≡ p)
        → coord k (point_written k points p point) q d ≡ coord k (point_written k others p point) q d
    go q e d l (yes here) = rw here (written_here k points p point size room d l ∙ sym (written_here k others p point size there d l))
    go q e d l (no other) =
        written_elsewhere k points p point size room q d other l
        ∙ (w.same q (sym (others_live n live p 1 q other) ∙ e)).same d l
        ∙ sym (written_elsewhere k others p point size there q d other l)
