-- A pass over the numbers that writes those that belong to the places of a list, one after the other.
use Rattle.std.specs.Prelude.{◌≡◌, refl, Bool, true, false, List, [], ◌∷◌, ◌++◌, ℕ, ◌+◌, ◌≤◌, ◌<◌, length, take, set}
use Rattle.std.proofs.Common.{sym, ap, ◌∙◌, append-nil, add-one, arith, length-set, length-append, length-take, take-suc-set, take_all}
use Rattle.std.proofs.Math.Decide.{dec_lt}
use Rattle.std.proofs.lemmas.List.{take-set-le}
use Rattle.terms.specs.Tests.{keep, rising}
use Rattle.terms.specs.Tree.{members}
use Rattle.theory.specs.RisingNumbers.{members_next, members_fewer, members_all}

-- The pass has come to number n: the first places hold the numbers below n that belong. There is a place for each below m.
pub record FilledTo (belongs : ℕ → Bool) (m : ℕ) (ys : List ℕ) (at n : ℕ) : Type 0 where
  pub few : n ≤ m
  pub size : length ys ≡ length (members belongs m)
  pub written : at ≡ length (members belongs n)
  pub same : take at ys ≡ members belongs n

pub filled_none : (belongs : ℕ → Bool) (m : ℕ) (ys : List ℕ) → length ys ≡ length (members belongs m) → FilledTo belongs m ys 0 0
unfolding keep rising
filled_none belongs m ys size = record { few = omega arith; size = size; written = refl; same = refl }

module _ {belongs : ℕ → Bool} {m : ℕ} {ys : List ℕ} {at n : ℕ} (f : FilledTo belongs m ys at n) where
  pub filled_skip : n < m → belongs n ≡ false → FilledTo belongs m ys at (n + 1)
  filled_skip l e =
      let next = rw e at (members_next belongs n) ∙ append-nil (members belongs n) in
      record { few = omega arith; size = f.size; written = f.written ∙ ap length (sym next); same = f.same ∙ sym next }

  -- What is written behind the first places does not count.
  pub filled_behind : (v : ℕ) → FilledTo belongs m (set ys at v) at n
  filled_behind v = record {
    few = f.few;
    size = length-set ys at v ∙ f.size;
    written = f.written;
    same = take-set-le at ys at v (omega arith) ∙ f.same;
  }

  -- While a place is left, a number is left.
  pub filled_left : at < length ys → n < m
  filled_left room = go (dec_lt n m)
    where
      go : Dec (n < m) → n < m
      go (yes l) = l
      go (no l) = absurd (omega (arith, f.few, f.size, f.written, ap (λ (k : ℕ). length (members belongs k)) (last l)))
        where
          last : (n < m → ⊥) → n ≡ m
          last o = omega (arith, f.few)

  -- A number that belongs comes next, and has a place.
  module _ (l : n < m) (e : belongs n ≡ true) where
    one_more : members belongs (n + 1) ≡ members belongs n ++ n ∷ []
    one_more = rw e at (members_next belongs n)

    one_longer : at + 1 ≡ length (members belongs (n + 1))
    one_longer = omega (arith, f.written, ap length one_more, length-append (members belongs n) (n ∷ []))

    pub filled_room : at < length ys
    filled_room = omega (arith, one_longer, members_fewer belongs {n = n + 1} {m = m} (omega arith), f.size)

    pub filled_turn : FilledTo belongs m (set ys at n) (at + 1) (n + 1)
    filled_turn = record {
      few = omega arith;
      size = length-set ys at n ∙ f.size;
      written = one_longer;
      same = rw (add-one at, take-suc-set ys at n filled_room, f.same) (sym one_more);
    }

  -- No place is left: all are written.
  pub filled_full : length ys ≤ at → ys ≡ members belongs m
  filled_full l = sym (take_all at ys l) ∙ f.same ∙ members_all belongs f.few (omega (arith, f.size, f.written, length-take at ys, ap length f.same))

  -- All are written.
  pub filled_all : m ≤ n → ys ≡ members belongs m
  filled_all l =
      let e : n ≡ m = omega (arith, f.few) in
      sym (take_all at ys (omega (arith, f.size, f.written, ap (λ (k : ℕ). length (members belongs k)) e)))
      ∙ f.same
      ∙ ap (members belongs) e
