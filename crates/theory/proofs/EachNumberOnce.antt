-- "Each number once" by length alone: as many places as numbers that belong, all belonging and pairwise different.
use Rattle.std.specs.Prelude.{◌≡◌, refl, Bool, false, List}
use Rattle.std.proofs.Common.{sym, ap, ◌∙◌, arith}
use Rattle.std.proofs.Math.Bool.{true}
use Prim.Native.Nat.{ℕ, ◌≤◌, ◌<◌}
use Rattle.std.proofs.Math.ListN.{length, get_or}
use Rattle.std.proofs.Math.Dec.{eqb}
use borrow.Author.Tests.{lt-ltb}
use Rattle.terms.specs.Tests.{count, every}
use Rattle.terms.specs.Points.{below}
use Rattle.terms.specs.Tree.{members, each_once}
use Rattle.theory.specs.Counting.{Distinct, at_every}
use Rattle.theory.specs.SameByNumber.{same_by_length, count_none}
use Rattle.theory.specs.RisingNumbers.{length_rising, members_shelf}
use Rattle.theory.specs.EachNumberOnce.{BelongBelow, member_once, members_each, below_under}

module _ (belongs : ℕ → Bool) (m : ℕ) where
  -- As many places as numbers that belong, all belonging and pairwise different: each number once.
  pub distinct_each : BelongBelow belongs m → {run : List ℕ} → length run ≡ length (members belongs m) → every belongs run ≡ true → Distinct run
      → each_once belongs m run ≡ true
  distinct_each under {run} size all d = members_each belongs m (same_by_length (λ v. go v (belongs v) refl) size)
    where
      go : (v : ℕ) (t : Bool) → belongs v ≡ t → count (eqb v) run ≤ count (eqb v) (members belongs m)
      go v true b = omega (arith, d.once v, member_once belongs m v (under v b) b)
      go v false b = omega (arith, count_none belongs run v all b)

-- n places, all below n and pairwise different.
pub distinct_shelf : (n : ℕ) {run : List ℕ} → length run ≡ n → ((i : ℕ) → i < length run → get_or run i 0 < n) → Distinct run → each_once (below n) n run ≡ true
distinct_shelf n {run} size low d =
    distinct_each (below n) n (below_under n) (size ∙ sym (ap length (members_shelf n) ∙ length_rising 0 n))
    (at_every (below n) 0 run (λ i l. lt-ltb (get_or run i 0) n (low i l))) d
