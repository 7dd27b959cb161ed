-- Tests over the numbers below a bound, number by number: for all, and for some.
use Rattle.std.specs.Prelude.{◌≡◌, refl, Bool, true, false, ◌⊎◌, ℕ, zero, suc, ◌<◌}
use Rattle.std.proofs.Common.{inl, inr, not-suc-le-zero, arith}
use Rattle.whole.proofs.IndexedTotal.{below_suc}
use Rattle.terms.specs.Tests.{all_to, any_to}
use Rattle.theory.specs.Flags.{clash, contra, and_true, true_and, and_false, or_true, or_false, false_or}

pub all_each : (h : ℕ) (test : ℕ → Bool) → all_to h test ≡ true → (i : ℕ) → i < h → test i ≡ true
unfolding all_to
all_each zero test e i l = absurd (not-suc-le-zero l)
all_each (suc h) test e i l =
    let p = and_true (all_to h test) e in
    below_suc (λ n. test n ≡ true) h (all_each h test p.0) p.1 i l

pub each_all : (h : ℕ) (test : ℕ → Bool) → ((i : ℕ) → i < h → test i ≡ true) → all_to h test ≡ true
unfolding all_to
each_all zero test e = refl
each_all (suc h) test e = true_and (each_all h test (λ i l. e i (omega arith))) (e h (omega arith))

pub any_none : (h : ℕ) (test : ℕ → Bool) → any_to h test ≡ false → (i : ℕ) → i < h → test i ≡ false
unfolding any_to
any_none zero test e i l = absurd (not-suc-le-zero l)
any_none (suc h) test e i l =
    let p = or_false (any_to h test) e in
    below_suc (λ n. test n ≡ false) h (any_none h test p.0) p.1 i l

pub none_any : (h : ℕ) (test : ℕ → Bool) → ((i : ℕ) → i < h → test i ≡ false) → any_to h test ≡ false
unfolding any_to
none_any zero test e = refl
none_any (suc h) test e = false_or (none_any h test (λ i l. e i (omega arith))) (e h (omega arith))

-- One number below h at which the test has the answer t.
abbrev pub OneBelow : ℕ → (ℕ → Bool) → Bool → Type 0
OneBelow h test t = (i : ℕ) × (i < h) × (test i ≡ t)

one_more : {h : ℕ} {test : ℕ → Bool} {t : Bool} → OneBelow h test t → OneBelow (suc h) test t
one_more w = (w.0, omega arith, w.2)

pub all_false : (h : ℕ) (test : ℕ → Bool) → all_to h test ≡ false → OneBelow h test false
unfolding all_to
all_false zero test e = clash refl e
all_false (suc h) test e = go (and_false (all_to h test) e) (all_false h test)
  where
    go : (all_to h test ≡ false) ⊎ (test h ≡ false) → (all_to h test ≡ false → OneBelow h test false) → OneBelow (suc h) test false
    go (inl n) ih = one_more (ih n)
    go (inr n) ih = (h, omega arith, n)

pub any_true : (h : ℕ) (test : ℕ → Bool) → any_to h test ≡ true → OneBelow h test true
unfolding any_to
any_true zero test e = clash e refl
any_true (suc h) test e = go (or_true (any_to h test) e) (any_true h test)
  where
    go : (any_to h test ≡ true) ⊎ (test h ≡ true) → (any_to h test ≡ true → OneBelow h test true) → OneBelow (suc h) test true
    go (inl n) ih = one_more (ih n)
    go (inr n) ih = (h, omega arith, n)

pub one_all_false : (h : ℕ) (test : ℕ → Bool) → OneBelow h test false → all_to h test ≡ false
one_all_false h test w = contra {s = all_to h test} (λ e. all_each h test e w.0 w.1) w.2

pub one_any_true : (h : ℕ) (test : ℕ → Bool) → OneBelow h test true → any_to h test ≡ true
one_any_true h test (i, l, e) = go (any_to h test) refl
  where
    go : (t : Bool) → any_to h test ≡ t → t ≡ true
    go true a = refl
    go false a = clash e (any_none h test a i l)

-- Tests that agree below the bound agree for all and for some.
pub all_same : (h : ℕ) (p q : ℕ → Bool) → ((i : ℕ) → i < h → p i ≡ q i) → all_to h p ≡ all_to h q
unfolding all_to
all_same zero p q e = refl
all_same (suc h) p q e = rw (all_same h p q (λ i l. e i (omega arith)), e h (omega arith))

pub any_same : (h : ℕ) (p q : ℕ → Bool) → ((i : ℕ) → i < h → p i ≡ q i) → any_to h p ≡ any_to h q
unfolding any_to
any_same zero p q e = refl
any_same (suc h) p q e = rw (any_same h p q (λ i l. e i (omega arith)), e h (omega arith))
