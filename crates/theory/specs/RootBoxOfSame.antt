-- The root box is one of the numbers, not of their order: two runs of the same numbers have alike root boxes. Each box holds the other's points,
-- so its least coordinates are no greater and its greatest no less.
use Rattle.std.specs.Prelude.{◌≡◌, true, List, [], ◌∷◌, ℕ, suc, ◌<◌, length, get_or, ℤ}
use Rattle.std.proofs.Common.{not-suc-le-zero, arith}
use Rattle.std.specs.Int.Signed.{le_z}
use Rattle.whole.proofs.Order.{le_antisym, le_le_z, le_z_le}
use Rattle.terms.specs.Tests.{every}
use Rattle.terms.specs.Points.{within}
use Rattle.terms.specs.Box.{root_box}
use Rattle.theory.specs.Flags.{and_true, true_and}
use Rattle.theory.specs.Counting.{Same, same_sym, same_length, same_every, every_at, at_every}
use Rattle.theory.specs.Tested.{Between}
use Rattle.theory.specs.Boxes.{Alike}
use Rattle.theory.specs.LeastAndGreatest.{least_between, greatest_between}
use Rattle.theory.specs.BoxLaws.{held_root}

-- What lies between two numbers lies there in any order of the run.
between_same : (value : ℕ → ℤ) {a b : ℤ} {xs ys : List ℕ} → Same ys xs → ((i : ℕ) → i < length xs → Between a (value (get_or xs i 0)) b)
    → (i : ℕ) → i < length ys → Between a (value (get_or ys i 0)) b
between_same value {a} {b} {xs} {ys} same each i l =
    let p = and_true (le_z a (value (get_or ys i 0))) (every_at (λ p. within a b (value p)) 0 ys (same_every _ same all) i l) in
    record { from_least = le_z_le p.0; to_greatest = le_z_le p.1 }
  where
    all : every (λ p. within a b (value p)) xs ≡ true
    all = at_every _ 0 xs (λ i l. true_and (le_le_z (each i l).from_least) (le_le_z (each i l).to_greatest))

-- Coordinates between two numbers have the root box between them.
pub root_between : (at : ℕ → ℕ → ℤ) (d : ℕ) {a b : ℤ} (run : List ℕ) → 0 < length run → ((i : ℕ) → i < length run → Between a (at (get_or run i 0) d) b)
    → Between a ((root_box at run).low d) b × Between a ((root_box at run).high d) b
unfolding root_box
root_between at d [] some each = absurd (not-suc-le-zero some)
root_between at d {a} {b} (p ∷ run) some each =
    let others : (i : ℕ) → i < length run → Between a (at (get_or run i 0) d) b = λ i l. each (suc i) (omega arith) in
    (least_between _ _ run (each 0 some) others, greatest_between _ _ run (each 0 some) others)

-- The root box of the one has that of the other between its rows.
root_spans : (k : ℕ) (at : ℕ → ℕ → ℤ) (d : ℕ) → d < k → {xs ys : List ℕ} → Same ys xs → 0 < length ys
    → Between ((root_box at xs).low d) ((root_box at ys).low d) ((root_box at xs).high d)
    × Between ((root_box at xs).low d) ((root_box at ys).high d) ((root_box at xs).high d)
root_spans k at d l {xs} {ys} same some =
    let held = held_root k at xs in
    root_between at d ys some
    (between_same (λ p. at p d) same (λ i m. record { from_least = (held.each i m).least d l; to_greatest = (held.each i m).most d l }))

pub root_of_same : (k : ℕ) (at : ℕ → ℕ → ℤ) {xs ys : List ℕ} → Same xs ys → 0 < length xs → Alike k (root_box at xs) (root_box at ys)
root_of_same k at {xs} {ys} same some =
    let some_back : 0 < length ys = omega (arith, same_length same) in
    let back = same_sym same in
    record {
      lows = λ d l. le_antisym (root_spans k at d l back some_back).0.from_least (root_spans k at d l same some).0.from_least;
      highs = λ d l. le_antisym (root_spans k at d l same some).1.to_greatest (root_spans k at d l back some_back).1.to_greatest;
    }
