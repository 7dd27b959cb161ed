-- Tests put to the items of a list, or to the numbers below a bound.
use Rattle.std.specs.Prelude.{Bool, true, false, ◌&&◌, ◌||◌, cond, List, [], ◌∷◌, ℕ, zero, suc, ◌+◌}

-- A yes counts one, a no nothing.
abbrev pub bit : Bool → ℕ
bit true = 1
bit false = 0

-- How many items pass the test.
unfoldable pub count : {A : Type 0} → (A → Bool) → List A → ℕ
count test [] = 0
count test (x ∷ xs) = bit (test x) + count test xs

-- Every item passes the test.
unfoldable pub every : {A : Type 0} → (A → Bool) → List A → Bool
every test [] = true
every test (x ∷ xs) = test x && every test xs

-- The item in front of the others, if it passed.
abbrev pub pick : {A : Type 0} → Bool → A → List A → List A
pick true x xs = x ∷ xs
pick false x xs = xs

-- The items that pass the test, in their order.
unfoldable pub keep : {A : Type 0} → (A → Bool) → List A → List A
keep test [] = []
keep test (x ∷ xs) = pick (test x) x (keep test xs)

-- All of the numbers 0 to h - 1 pass the test.
unfoldable pub all_to : ℕ → (ℕ → Bool) → Bool
all_to zero test = true
all_to (suc h) test = all_to h test && test h

-- Some of the numbers 0 to h - 1 passes the test.
unfoldable pub any_to : ℕ → (ℕ → Bool) → Bool
any_to zero test = false
any_to (suc h) test = any_to h test || test h

-- The lowest of the numbers 0 to h - 1 that passes the test; h where none does.
unfoldable pub lowest_to : ℕ → (ℕ → Bool) → ℕ
lowest_to zero test = 0
lowest_to (suc h) test = cond (test 0) 0 (suc (lowest_to h (λ i. test (suc i))))

-- The numbers a, a + 1 and so on, c of them.
unfoldable pub rising : ℕ → ℕ → List ℕ
rising a zero = []
rising a (suc c) = a ∷ rising (suc a) c
