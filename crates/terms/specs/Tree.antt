-- The shelf's order: what makes a run of slots the k-d tree of its points.
use Rattle.std.specs.Prelude.{Bool, true, false, ◌&&◌, List, [], ◌∷◌, ℕ, zero, suc, length, take, ℤ, eqb}
use Rattle.terms.specs.Tests.{count, every, keep, rising}
use Rattle.terms.specs.Lent.{Stock, Order}
use Rattle.terms.specs.Points.{point_of, belongs_to, slots_of}
use Rattle.terms.specs.Before.{before}
use Rattle.terms.specs.Run.{axis, node, lefts, rights}

-- The run is a branch at depth j. The first number bounds the descent: the run's length is enough, and with too little the answer is no.
unfoldable pub tree_run : ℕ → ℕ → (ℕ → ℕ → ℤ) → ℕ → List ℕ → Bool
tree_run zero k at j [] = true
tree_run zero k at j (x ∷ xs) = false
tree_run (suc f) k at j [] = true
tree_run (suc f) k at j (x ∷ xs) =
    let run : List ℕ = x ∷ xs in
    every (λ p. before at (axis k j) p (node run)) (lefts run)
    && every (λ p. before at (axis k j) (node run) p) (rights run)
    && tree_run f k at (suc j) (lefts run)
    && tree_run f k at (suc j) (rights run)

-- The numbers below m that belong, rising.
abbrev pub members : (ℕ → Bool) → ℕ → List ℕ
members belongs m = keep belongs (rising 0 m)

-- The run holds only numbers that belong, and each number below m that belongs once.
unfoldable pub each_once : (ℕ → Bool) → ℕ → List ℕ → Bool
each_once belongs m run = every belongs run && every (λ p. eqb (count (eqb p) run) 1) (members belongs m)

-- The run is the tree of the numbers below m that belong.
unfoldable pub is_tree : ℕ → (ℕ → ℕ → ℤ) → (ℕ → Bool) → ℕ → List ℕ → Bool
is_tree k at belongs m run = each_once belongs m run && tree_run (length run) k at 0 run

-- The slots of the stock's shelf: the first of the order.
abbrev pub shelf_run : Stock → Order → List ℕ
shelf_run s o = take (slots_of s) o.slots

-- They are the tree of the stock's numbers.
abbrev pub is_shelf : Stock → Order → Bool
is_shelf s o = is_tree s.k (point_of s) (belongs_to s) s.n (shelf_run s o)
