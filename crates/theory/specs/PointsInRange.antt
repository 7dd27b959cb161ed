-- The points of the numbers that belong: in range each by itself, by a blind test of all that is lent, and, where all belong, exactly by that test.
use Rattle.std.specs.Prelude.{◌≡◌, refl, Bool, true, ◌&&◌, List, ℕ, ◌+◌, ◌*◌, ◌/◌, ◌%◌, ◌≤◌, ◌<◌, length, get_or, ℤ, pos, negsuc, ltb}
use Rattle.std.proofs.Common.{ap, mod-lt, div-add-mod', div-lt_iff_lt-mul, mul_comm, arith, ltb-true, lt-ltb}
use Rattle.std.specs.Int.Signed.{le_z}
use Rattle.whole.proofs.Order.{le_z_le, le_le_z}
use Rattle.terms.specs.Tests.{bit, every}
use Rattle.terms.specs.Points.{coord, below, is_coordinate}
use Rattle.terms.specs.Tree.{members}
use Rattle.terms.specs.LivePoints.{point_in_range, members_in_range}
use Rattle.theory.specs.Flags.{same_test, and_true, true_and}
use Rattle.theory.specs.AllAndAny.{all_each, each_all}
use Rattle.theory.specs.Counting.{every_at, at_every, every_or_default}
use Rattle.theory.specs.Tested.{Coordinates}
use Rattle.theory.specs.SameByNumber.{every_counted}
use Rattle.theory.specs.RisingNumbers.{members_belong, members_below, count_members}

-- A point whose k coordinates pass has them in range, and back.
pub point_ranges : (k : ℕ) (x : ℕ → ℤ) → point_in_range k x ≡ true → Coordinates k x
point_ranges k x e = record {
  ranges = λ d l.
      let p = and_true (le_z (negsuc 32767) (x d)) (all_each k (λ i. is_coordinate (x i)) e d l) in
      record { from_least = le_z_le p.0; to_greatest = le_z_le p.1 };
}

pub ranges_point : (k : ℕ) (x : ℕ → ℤ) → Coordinates k x → point_in_range k x ≡ true
ranges_point k x w =
    each_all k (λ i. is_coordinate (x i)) (λ d l. true_and (le_le_z (w.ranges d l).from_least) (le_le_z (w.ranges d l).to_greatest))

module _ (k : ℕ) (at : ℕ → ℕ → ℤ) (belongs : ℕ → Bool) (m : ℕ) where
  -- Number by number.
  pub in_range_each : members_in_range k at belongs m ≡ true → (p : ℕ) → p < m → belongs p ≡ true → point_in_range k (at p) ≡ true
  in_range_each e p l b =
      let one : bit (belongs p && ltb p m) ≡ 1 = ap bit (true_and b (lt-ltb p m l)) in
      every_counted (λ q. point_in_range k (at q)) (members belongs m) p e (omega (arith, count_members belongs m p))

  pub each_in_range : ((p : ℕ) → p < m → belongs p ≡ true → point_in_range k (at p) ≡ true) → members_in_range k at belongs m ≡ true
  each_in_range each = at_every _ 0 (members belongs m) here
    where
      here : (i : ℕ) → i < length (members belongs m) → point_in_range k (at (get_or (members belongs m) i 0)) ≡ true
      here i l = each _
          (ltb-true _ m (every_at (below m) 0 (members belongs m) (members_below belongs m) i l))
          (every_at belongs 0 (members belongs m) (members_belong belongs m) i l)

-- Where every lent coordinate is in range, so are those of the numbers that belong.
pub blind_in_range : (k : ℕ) (points : List ℤ) (belongs : ℕ → Bool) (m : ℕ) → every is_coordinate points ≡ true
    → members_in_range k (coord k points) belongs m ≡ true
blind_in_range k points belongs m e =
    each_in_range k (coord k points) belongs m (λ p l b. each_all k _ (λ d f. every_or_default is_coordinate (pos 0) refl points e (p * k + d)))

-- The lent coordinates of points of k, m of them.
module _ (k : ℕ) (points : List ℤ) (m : ℕ) (size : length points ≡ k * m) where
  -- With all live, "5 holds exactly if some lent coordinate is out of range".
  pub full_in_range : 1 ≤ k → members_in_range k (coord k points) (below m) m ≡ every is_coordinate points
  full_in_range some = same_test (λ e. at_every is_coordinate (pos 0) points (back e)) (blind_in_range k points (below m) m)
    where
      back : members_in_range k (coord k points) (below m) m ≡ true → (u : ℕ) → u < length points → is_coordinate (get_or points u (pos 0)) ≡ true
      back e u l =
          let few : u / k < m = (div-lt_iff_lt-mul {k = k} {x = u} {y = m} some).1 (omega (arith, mul_comm k m)) in
          let point = in_range_each k (coord k points) (below m) m e (u / k) few (lt-ltb (u / k) m few) in
          rw (div-add-mod' u k) at (all_each k (λ d. is_coordinate (coord k points (u / k) d)) point (u % k) (mod-lt u some))
