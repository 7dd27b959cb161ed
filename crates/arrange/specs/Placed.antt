-- A run's number at a place, by way of keys: each number's key is written in its place, one is chosen, and the numbers are written back.
-- What stands in the places is the run in another order, since a key's remainder is its number; and what is no greater as a key comes
-- strictly before as a number, since no number stands twice.
use Rattle.std.specs.Prelude.{◌≡◌, refl, Bool, true, ◌&&◌, List, map, ℕ, ◌%◌, ◌<◌, length, get_or, ℤ, eqb}
use Rattle.std.proofs.Common.{sym, ap, ◌∙◌, arith, lt-ltb, eqb-true, eq-eqb}
use Rattle.std.proofs.lemmas.List.{length-map}
use Rattle.terms.specs.Tests.{every}
use Rattle.terms.specs.Points.{coord}
use Rattle.terms.specs.Before.{before}
use Rattle.theory.specs.Flags.{and_true, true_and}
use Rattle.theory.specs.Counting.{Same, Distinct, same_length, same_every, same_distinct, distinct_places, every_at, at_every, count_map, count_same}
use Rattle.arrange.specs.Key.{key_of, Keyed, key_number, before_key}
use Rattle.arrange.specs.Chosen.{Chosen}
use Rattle.arrange.specs.WrittenInPlace.{map_at}

-- Every number of the run belongs to those that have a key on each dimension, and dimension s is one of these.
pub record KeyedRun (k : ℕ) (points : List ℤ) (s : ℕ) (run : List ℕ) : Type 0 where
  pub belongs : ℕ → Bool
  pub has_key : (d p : ℕ) → d < k → belongs p ≡ true → Keyed k points d p
  pub dimension : s < k
  pub numbers : every belongs run ≡ true

pub keyed_at : {k s : ℕ} {points : List ℤ} {run : List ℕ} → KeyedRun k points s run → (i : ℕ) → i < length run → Keyed k points s (get_or run i 0)
keyed_at {s = s} {run = run} w i h = w.has_key s (get_or run i 0) w.dimension (every_at w.belongs 0 run w.numbers i h)

-- The number of a key.
abbrev pub number_of : ℕ → ℕ
number_of v = v % 65536

-- ys is xs in another order, and on dimension s the number at the place m has those before it before it, and those after it after it.
pub record Placed (at : ℕ → ℕ → ℤ) (s : ℕ) (xs ys : List ℕ) (m : ℕ) : Type 0 where
  pub same : Same ys xs
  pub before_node : (i : ℕ) → i < m → before at s (get_or ys i 0) (get_or ys m 0) ≡ true
  pub after_node : (i : ℕ) → m < i → i < length ys → before at s (get_or ys m 0) (get_or ys i 0) ≡ true

module _ {k : ℕ} {points : List ℤ} {s : ℕ} {xs : List ℕ} (w : KeyedRun k points s xs) where
  abbrev key : ℕ → ℕ
  key = key_of k points s

  -- It is the key of its number, which belongs.
  abbrev is_key : ℕ → Bool
  is_key v = eqb v (key (number_of v)) && w.belongs (number_of v)

  keys : every is_key (map key xs) ≡ true
  keys = at_every is_key 0 (map key xs) (λ i h. at i (rw length-map at h))
    where
      at : (i : ℕ) → i < length xs → is_key (get_or (map key xs) i 0) ≡ true
      at i h =
          let x : ℕ = get_or xs i 0 in
          let r : number_of (key x) ≡ x = key_number (keyed_at w i h) in
          rw (map_at key xs i h, r) (true_and (eq-eqb (key x) (key x) refl) (every_at w.belongs 0 xs w.numbers i h))

  -- The keys in any order.
  module _ {zs : List ℕ} (c : Same zs (map key xs)) where
    -- Their numbers are the run in another order.
    numbers_same : Same (map number_of zs) xs
    numbers_same = record {
      counts = λ test.
          count_map test number_of zs
          ∙ c.counts (λ v. test (number_of v))
          ∙ count_map (λ v. test (number_of v)) key xs
          ∙ count_same 0 (λ x. test (number_of (key x))) test xs (λ i h. ap test (key_number (keyed_at w i h)));
    }

    keys_length : length zs ≡ length xs
    keys_length = same_length c ∙ length-map xs key

    key_at : (i : ℕ) → i < length zs → (get_or zs i 0 ≡ key (number_of (get_or zs i 0))) × Keyed k points s (number_of (get_or zs i 0))
    key_at i h =
        let v : ℕ = get_or zs i 0 in
        let p = and_true (eqb v (key (number_of v))) (every_at is_key 0 zs (same_every is_key c keys) i h) in (
          eqb-true v (key (number_of v)) p.0,
          w.has_key s (number_of v) w.dimension p.1,
        )

    -- What is less as a key comes before as a number.
    less_before : (i j : ℕ) → i < length zs → j < length zs → get_or zs i 0 < get_or zs j 0
        → before (coord k points) s (get_or (map number_of zs) i 0) (get_or (map number_of zs) j 0) ≡ true
    less_before i j hi hj l =
        let a = key_at i hi in
        let b = key_at j hj in
        let x : ℕ = number_of (get_or zs i 0) in
        let y : ℕ = number_of (get_or zs j 0) in
        rw (map_at number_of zs i hi, map_at number_of zs j hj) (before_key a.1 b.1 ∙ lt-ltb (key x) (key y) (omega (arith, a.0, b.0)))

    -- Two places hold two keys.
    apart : Distinct xs → (i j : ℕ) → i < j → j < length zs → get_or zs i 0 ≡ get_or zs j 0 → ⊥
    apart d i j l h e =
        distinct_places (map number_of zs) i j (same_distinct numbers_same d) l (rw length-map h)
        (map_at number_of zs i (omega arith) ∙ ap number_of e ∙ sym (map_at number_of zs j h))

  pub placed : {zs : List ℕ} {m : ℕ} → Distinct xs → m < length xs → Chosen (map key xs) zs m → Placed (coord k points) s xs (map number_of zs) m
  placed {zs} {m} d h c =
      let n = keys_length c.same in
      let hm : m < length zs = omega arith in
      record {
        same = numbers_same c.same;
        before_node = λ i l.
            let ne = apart c.same d i m l hm in
            less_before c.same i m (omega arith) hm (omega (arith, c.from.ordered i m l (omega arith) hm));
        after_node = λ i l u.
            let v : i < length zs = rw length-map at u in
            let ne = apart c.same d m i l v in
            less_before c.same m i hm v (omega (arith, c.past.ordered m i (omega arith) (omega arith) v));
      }
