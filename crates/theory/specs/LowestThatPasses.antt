-- The lowest number that passes a test: where a scan stops, and there is one such place.
use Rattle.std.specs.Prelude.{◌≡◌, refl, Bool, true, false, cond, ◌⊎◌, ℕ, zero, suc, ◌≤◌, ◌<◌}
use Rattle.std.proofs.Common.{inl, inr, not-suc-le-zero, le_of_suc-le-suc, arith}
use Rattle.std.proofs.Math.Decide.{dec_lt}
use Rattle.terms.specs.Tests.{lowest_to}
use Rattle.terms.specs.Reason.{Lowest}
use Rattle.theory.specs.Flags.{clash}
use Rattle.theory.specs.AllAndAny.{OneBelow}

-- Where a scan of the numbers below h stops: none before it passes, and it passes or is h.
pub record Stops (h : ℕ) (test : ℕ → Bool) (f : ℕ) : Type 0 where
  pub most : f ≤ h
  pub none_lower : (e : ℕ) → e < f → test e ≡ false
  pub passes : f < h → test f ≡ true

pub lowest_stops : (h : ℕ) (test : ℕ → Bool) → Stops h test (lowest_to h test)
unfolding lowest_to
lowest_stops zero test = record { most = omega arith; none_lower = λ e l. absurd (not-suc-le-zero l); passes = λ l. absurd (not-suc-le-zero l) }
lowest_stops (suc h) test = go (test 0) refl (lowest_stops h (λ i. test (suc i)))
  where
    go : (t : Bool) → test 0 ≡ t → Stops h (λ i. test (suc i)) (lowest_to h (λ i. test (suc i)))
        → Stops (suc h) test (cond t 0 (suc (lowest_to h (λ i. test (suc i)))))
    go true e s = record { most = omega arith; none_lower = λ e l. absurd (not-suc-le-zero l); passes = λ l. e }
    go false n s = record { most = omega (arith, s.most); none_lower = low; passes = λ l. s.passes (le_of_suc-le-suc l) }
      where
        low : (e : ℕ) → e < suc (lowest_to h (λ i. test (suc i))) → test e ≡ false
        low zero l = n
        low (suc e) l = s.none_lower e (le_of_suc-le-suc l)

-- There is one such place.
pub stops_same : {h : ℕ} {test : ℕ → Bool} {f e : ℕ} → Stops h test f → Stops h test e → f ≡ e
stops_same {h} {test} {f} {e} s r = go (dec_lt f e) (dec_lt e f)
  where
    go : Dec (f < e) → Dec (e < f) → f ≡ e
    go (yes l) d = clash (s.passes (omega (arith, r.most))) (r.none_lower f l)
    go (no n) (yes l) = clash (r.passes (omega (arith, s.most))) (s.none_lower e l)
    go (no n) (no m) = omega arith

pub stops_lowest : {h : ℕ} {test : ℕ → Bool} {f : ℕ} → Stops h test f → f ≡ lowest_to h test
stops_lowest {h} {test} s = stops_same s (lowest_stops h test)

module _ (h : ℕ) (test : ℕ → Bool) where
  pub lowest_is : {f : ℕ} → Lowest h test f → f ≡ lowest_to h test
  lowest_is w = stops_lowest (record { most = omega (arith, w.known); none_lower = w.none_lower; passes = λ l. w.passes })

  pub lowest_some : lowest_to h test < h → Lowest h test (lowest_to h test)
  lowest_some l = let s = lowest_stops h test in record { known = l; passes = s.passes l; none_lower = s.none_lower }

  pub lowest_none : lowest_to h test ≡ h → (i : ℕ) → i < h → test i ≡ false
  lowest_none e i l = (lowest_stops h test).none_lower i (omega arith)

  pub none_lowest : ((i : ℕ) → i < h → test i ≡ false) → lowest_to h test ≡ h
  none_lowest none = stops_same (lowest_stops h test) (record { most = omega arith; none_lower = none; passes = λ l. absurd (omega arith) })

  -- Some number passes, or none does.
  pub lowest_either : (lowest_to h test < h) ⊎ (lowest_to h test ≡ h)
  lowest_either = go (dec_lt (lowest_to h test) h)
    where
      go : Dec (lowest_to h test < h) → (lowest_to h test < h) ⊎ (lowest_to h test ≡ h)
      go (yes l) = inl l
      go (no n) = inr (omega (arith, (lowest_stops h test).most))

-- The lowest is one that passes.
pub lowest_one : {h : ℕ} {test : ℕ → Bool} {f : ℕ} → Lowest h test f → OneBelow h test true
lowest_one {f = f} w = (f, w.known, w.passes)

-- Tests that agree below the bound have the same lowest.
pub lowest_same : (h : ℕ) (p q : ℕ → Bool) → ((i : ℕ) → i < h → p i ≡ q i) → lowest_to h p ≡ lowest_to h q
unfolding lowest_to
lowest_same zero p q e = refl
lowest_same (suc h) p q e = rw (e 0 (omega arith), lowest_same h (λ i. p (suc i)) (λ i. q (suc i)) (λ i l. e (suc i) (omega arith)))
