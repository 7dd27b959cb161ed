-- A run of slots in the list buffer: the numbers that a test passes stand in front, the others behind, after those of the slots before the run.
-- A run that all or none of its numbers pass is one copy; any other is the part before a slot, the number in that slot and the part after it.
use Rattle.std.specs.Prelude.{◌≡◌, Bool, not, List, [], ◌∷◌, ◌++◌, reverse, ℕ, ◌+◌, ◌-◌, ◌≤◌, length}
use Rattle.std.proofs.Common.{arith, length-append}
use Rattle.std.proofs.Math.Seq.{paste}
use Rattle.terms.specs.Tests.{keep}
use Rattle.theory.specs.Keeping.{keep_around}
use Rattle.list_buffer.specs.Filled.{Filled, filled_none, filled_then, filled_all, filled_front, filled_behind, paste_back, Placed}

-- The run's numbers are listed after those of d slots, i of which are inside, and then j are.
pub record Listed (test : ℕ → Bool) (run list after : List ℕ) (d i j : ℕ) : Type 0 where
  pub filled : Filled list after d i (d + length run) j (keep test run) (keep (λ p. not (test p)) run)

-- An empty run.
pub listed_none : (test : ℕ → Bool) (list : List ℕ) (d i : ℕ) → Listed test [] list list d i i
unfolding keep
listed_none test list d i = let e : d + 0 ≡ d = omega arith in record { filled = rw e (filled_none list d i) }

-- No more slots are inside than are listed.
pub listed_most : {test : ℕ → Bool} {run list after : List ℕ} {d i j : ℕ} → Listed test run list after d i j → i ≤ d → j ≤ d + length run
listed_most w few = let f = w.filled in omega arith

-- A whole run as a copier writes it.
module _ {test : ℕ → Bool} {run list after : List ℕ} {d i : ℕ} (few : i ≤ d) (room : d + length run ≤ length list) where
  pub listed_inside : keep test run ≡ run → keep (λ p. not (test p)) run ≡ [] → after ≡ paste list i run (length run)
      → Listed test run list after d i (i + length run)
  listed_inside all none e = record { filled = rw (all, none, e) (filled_front list d i run few room) }

  pub listed_outside : keep test run ≡ [] → keep (λ p. not (test p)) run ≡ run → after ≡ paste_back list (length list - (d - i)) run (length run)
      → Listed test run list after d i i
  listed_outside none all e = record { filled = rw (none, all, e) (filled_behind list d i run few room) }

-- Around one slot: the c slots before it, its own number, what is after it.
pub listed_around : {test : ℕ → Bool} {before after : List ℕ} {p : ℕ} {list first next last : List ℕ} {d i j k l c : ℕ} → length before ≡ c
    → Listed test before list first d i j → Placed first next p (test p) (d + c) j k → Listed test after next last (d + c + 1) k l
    → Listed test (before ++ p ∷ after) list last d i l
listed_around {test} {before} {after} {p} {d = d} {c = c} slots v f w =
    let e : d + c + 1 + length after ≡ d + length (before ++ p ∷ after) = omega (arith, length-append before (p ∷ after)) in
    record {
      filled = rw (← e, keep_around test before p after, keep_around _ before p after)
          (filled_then (filled_then (rw slots at v.filled) f.filled) w.filled);
    }

-- Every slot of the order is listed, i of them inside: those in front in slot order, the others backwards from the last place.
pub record AllListed (test : ℕ → Bool) (order after : List ℕ) (i : ℕ) : Type 0 where
  pub list : after ≡ keep test order ++ reverse (keep (λ p. not (test p)) order)
  pub inside : i ≡ length (keep test order)
  pub outside : length order - i ≡ length (keep (λ p. not (test p)) order)

pub listed_all : {test : ℕ → Bool} {order list after : List ℕ} {i : ℕ} → length list ≡ length order → Listed test order list after 0 0 i
    → AllListed test order after i
listed_all {order = order} {list} size w =
    let f = w.filled in
    let all : 0 + length order ≡ length list = omega arith in
    record { list = filled_all (rw all at f); inside = omega arith; outside = omega arith }
