-- A run of c slots of the order from slot a on: its node and its two branches are slots and runs of the order too.
use Rattle.std.specs.Prelude.{◌≡◌, refl, List, [], ◌∷◌, ◌++◌, ℕ, ◌+◌, ◌-◌, ◌/◌, ◌≤◌, ◌<◌, length, get_or, take, drop}
use Rattle.std.proofs.Common.{sym, ap, ◌∙◌, not-suc-le-zero, arith, length-drop, length-take-le, get_or-take, get_or-drop, take-take, take-add, drop_at, drop-drop}
use Rattle.terms.specs.Run.{node, lefts, rights}
use Rattle.theory.specs.RunParts.{whole_run}

-- The run.
abbrev pub run_of : List ℕ → ℕ → ℕ → List ℕ
run_of order a c = take c (drop a order)

-- The number of its node.
abbrev pub own_of : List ℕ → ℕ → ℕ → ℕ
own_of order a c = get_or order (a + c / 2) 0

-- Any run that is not empty is its left branch, its node and its right branch.
whole : (run : List ℕ) → 0 < length run → run ≡ lefts run ++ node run ∷ rights run
whole [] some = absurd (not-suc-le-zero some)
whole (x ∷ xs) some = whole_run x xs

-- The end of a front is the front of the end.
drop_take : (n m : ℕ) (xs : List ℕ) → n ≤ m → m ≤ length xs → drop n (take m xs) ≡ take (m - n) (drop n xs)
drop_take n m xs l h =
    let e : m ≡ n + (m - n) = omega arith in
    ap (λ (k : ℕ). drop n (take k xs)) e
    ∙ ap (drop n) (take-add n (m - n) xs)
    ∙ drop_at (take n xs) (take (m - n) (drop n xs)) n (length-take-le n xs (omega arith))

-- Its length, its branches and its node, by the slots of the order.
module _ (order : List ℕ) (a c : ℕ) (fits : a + c ≤ length order) where
  pub run_length : length (run_of order a c) ≡ c
  run_length = length-take-le c (drop a order) (omega (arith, length-drop a order))

  pub run_lefts : lefts (run_of order a c) ≡ run_of order a (c / 2)
  run_lefts = rw run_length (take-take (c / 2) c (drop a order) (omega arith))

  module _ (some : 0 < c) where
    pub run_node : node (run_of order a c) ≡ own_of order a c
    run_node = rw run_length (get_or-take c (drop a order) (c / 2) 0 (omega arith) ∙ get_or-drop a order (c / 2) 0)

    pub run_rights : rights (run_of order a c) ≡ run_of order (a + c / 2 + 1) (c - c / 2 - 1)
    run_rights =
        let e : c - (c / 2 + 1) ≡ c - c / 2 - 1 = omega arith in
        let s : a + (c / 2 + 1) ≡ a + c / 2 + 1 = omega arith in
        rw run_length
        (drop_take (c / 2 + 1) c (drop a order) (omega arith) (omega (arith, length-drop a order))
        ∙ rw (e, drop-drop (c / 2 + 1) a order, s) refl)

    -- The run is its left branch, its node and its right branch.
    pub run_whole : run_of order a c ≡ run_of order a (c / 2) ++ own_of order a c ∷ run_of order (a + c / 2 + 1) (c - c / 2 - 1)
    run_whole = rw (run_lefts, run_node, run_rights) at (whole (run_of order a c) (rw run_length some))

-- A run that is not empty starts with the number in its first slot.
pub run_starts : (order : List ℕ) (a c : ℕ) → a + c ≤ length order → 0 < c → (rest : List ℕ) × (run_of order a c ≡ get_or order a 0 ∷ rest)
run_starts order a c fits some = go (run_of order a c) refl
  where
    go : (run : List ℕ) → run_of order a c ≡ run → (rest : List ℕ) × (run_of order a c ≡ get_or order a 0 ∷ rest)
    go [] e = absurd (omega (arith, run_length order a c fits, ap length e))
    go (x ∷ xs) e =
        let head : get_or (run_of order a c) 0 0 ≡ x = ap (λ (run : List ℕ). get_or run 0 0) e in
        let slot : get_or (run_of order a c) 0 0 ≡ get_or order a 0 = get_or-take c (drop a order) 0 0 some ∙ get_or-drop a order 0 0 ∙ ap (λ (i : ℕ). get_or order i 0) (omega arith) in
        (xs, e ∙ ap (λ (p : ℕ). p ∷ xs) (sym head ∙ slot))

-- What `&order[a..a + c]` lends is the run.
abbrev pub lent_of : List ℕ → ℕ → ℕ → List ℕ
lent_of order a c = take (a + c - a) (drop a order)

pub lent_run : (order : List ℕ) (a c : ℕ) → lent_of order a c ≡ run_of order a c
lent_run order a c = let e : a + c - a ≡ c = omega arith in rw e refl

pub lent_length : (order : List ℕ) (a c : ℕ) → a + c ≤ length order → length (lent_of order a c) ≡ c
lent_length order a c fits = rw lent_run (run_length order a c fits)
