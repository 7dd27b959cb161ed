-- What the passes over the live bytes require and find, and the turns of their loops.
use Rattle.std.specs.Prelude.{◌≡◌, Bool, true, false, Option, Some, None, List, ℕ, ◌+◌, ◌*◌, ◌≤◌, ◌<◌, length, get_or, take, drop, ℤ, pos}
use Rattle.std.specs.Bool.{then_some}
use Rattle.std.proofs.Common.{sym, ap, ◌∙◌, mul-le-mul, arith, length-take, length-drop, get_or-take, get_or-drop}
use Rattle.std.proofs.Math.Seq.{take-length}
use Rattle.terms.specs.Tests.{bit, count, every}
use Rattle.terms.specs.Lent.{Stock}
use Rattle.terms.specs.Points.{coord, is_coordinate}
use Rattle.terms.specs.Live.{is_live_byte, is_set, live_count}
use Rattle.terms.specs.LivePoints.{point_in_range}
use Rattle.terms.specs.Refusals.{live_refusals, shape_refusals, stock_refusals}
use Rattle.theory.specs.Flags.{same_test}
use Rattle.theory.specs.Tested.{point_places}
use Rattle.theory.specs.AllAndAny.{all_each, each_all}
use Rattle.theory.specs.Counting.{every_at, at_every, count_next}
use Rattle.theory.specs.LiveNumbers.{live_bytes}
use Rattle.theory.specs.FirstRefusal.{Passed, passed_parts}
use Rattle.theory.specs.RefusalsPassed.{shape_passed, live_passed}
use Rattle.theory.specs.TakeCall.{TakePassed}
use Rattle.hornherder.specs.Ranges.{Through, through_all}

-- Whether each live byte is 0 or 1, and how many numbers are live.
pub record Counted (n : ℕ) (live : List ℕ) (all : Bool) (many : ℕ) : Type 0 where
  pub all_bytes : all ≡ every is_live_byte live
  pub live_many : many ≡ live_count n live

-- What one pass over the bytes gives: how many are live where each byte is 0 or 1, and none where one is not.
abbrev pub CountedAs : List ℕ → Option ℕ → Type 0
CountedAs live (Some many) = Counted (length live) live true many
CountedAs live None = every is_live_byte live ≡ false

pub counted_as : {live : List ℕ} {many : ℕ} (all : Bool) {o : Option ℕ} → o ≡ then_some all many → Counted (length live) live all many → CountedAs live o
counted_as true e w = rw e w
counted_as false e w = rw e (sym w.all_bytes)

-- k coordinates are lent for each of the n numbers, and a live byte.
pub record LivePoints (k n : ℕ) (points : List ℤ) (live : List ℕ) : Type 0 where
  pub few : k ≤ 4
  pub many : n ≤ 65535
  pub size : length points ≡ k * n
  pub bytes : length live ≡ n

-- So it is with a stock whose 1, 2, 3 and 15 were passed.
pub stock_lent : (s : Stock) → Passed (stock_refusals s) → LivePoints s.k s.n s.points s.live
stock_lent s w =
    let p = passed_parts (shape_refusals s.k s.n s.points) (live_refusals s.n s.live) w in
    let shaped = shape_passed s.k s.n s.points p.0 in
    record { few = shaped.dimension.1; many = shaped.many; size = shaped.size; bytes = (live_passed s.n s.live p.1).bytes }

-- And so with what the take call has tested.
pub passed_lent : {k n : ℕ} {points : List ℤ} {live : List ℕ} {point : List ℤ} → TakePassed k n points live point → LivePoints k n points live
passed_lent t = record { few = t.shaped.dimension.1; many = t.shaped.many; size = t.shaped.size; bytes = t.live_tested.bytes }

-- Of the first i live bytes: whether each is 0 or 1, and how many are 1.
pub record CountedTo (live : List ℕ) (i : ℕ) (all : Bool) (many : ℕ) : Type 0 where
  pub passed : Through is_live_byte live i all
  pub set_many : many ≡ count is_set (take i live)

pub counted_more : {live : List ℕ} {i : ℕ} {all more : Bool} {many next : ℕ} → CountedTo live i all many → i < length live
    → Through is_live_byte live (i + 1) more → next ≡ many + bit (is_set (get_or live i 0)) → CountedTo live (i + 1) more next
counted_more {live} {i} w l t e =
    record { passed = t; set_many = e ∙ ap (λ (m : ℕ). m + bit (is_set (get_or live i 0))) w.set_many ∙ sym (count_next is_set 0 live i l) }

pub counted_all : {n : ℕ} {live : List ℕ} {i : ℕ} {all : Bool} {many : ℕ} → CountedTo live i all many → i ≡ n → length live ≡ n → Counted n live all many
counted_all {n} {live} {i} w e size =
    let all_read : take i live ≡ live = ap (λ (j : ℕ). take j live) (e ∙ sym size) ∙ take-length live in
    record {
      all_bytes = through_all w.passed (e ∙ sym size);
      live_many = w.set_many ∙ ap (count is_set) all_read ∙ sym (live_bytes n live size);
    }

-- There are few coordinates.
pub points_few : {k n : ℕ} {points : List ℤ} {live : List ℕ} → LivePoints k n points live → length points ≤ 262140
points_few {k} {n} w =
    let few : k * n ≤ 4 * 65535 = mul-le-mul w.few w.many in
    omega (arith, w.size)

module _ {k n : ℕ} {points : List ℤ} {live : List ℕ} (w : LivePoints k n points live) {p : ℕ} (l : p < n) where
  -- Number p has its k coordinates.
  pub point_room : p * k + k ≤ length points
  point_room = point_places k n points w.size l

  part_length : length (take k (drop (p * k) points)) ≡ k
  part_length = omega (arith, length-take k (drop (p * k) points), length-drop (p * k) points, point_room)

  part_at : (d : ℕ) → d < k → get_or (take k (drop (p * k) points)) d (pos 0) ≡ coord k points p d
  part_at d m = get_or-take k (drop (p * k) points) d (pos 0) m ∙ get_or-drop (p * k) points d (pos 0)

  -- They are in range exactly if every number of that part is.
  pub part_in_range : every is_coordinate (take k (drop (p * k) points)) ≡ point_in_range k (coord k points p)
  part_in_range = same_test
      (λ e. each_all k _ (λ d m.
      rw (part_at d m) at (every_at is_coordinate (pos 0) (take k (drop (p * k) points)) e d (omega (arith, part_length)))))
      (λ e. at_every is_coordinate (pos 0) (take k (drop (p * k) points)) (λ d m.
      let here : d < k = omega (arith, part_length) in
      rw (part_at d here) (all_each k (λ i. is_coordinate (coord k points p i)) e d here)))
