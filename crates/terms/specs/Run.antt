-- A run of slots and its parts: the node, the left branch before it, the right branch after it.
use Rattle.std.specs.Prelude.{List, ℕ, ◌+◌, ◌/◌, ◌%◌, length, get_or, take, drop}

-- How many slots of a run of c stand before its node.
abbrev pub middle : ℕ → ℕ
middle c = c / 2

-- The dimension on which a node at depth j splits.
abbrev pub axis : ℕ → ℕ → ℕ
axis k j = j % k

-- The number in the node's slot.
abbrev pub node : List ℕ → ℕ
node run = get_or run (middle (length run)) 0

-- The left branch.
abbrev pub lefts : List ℕ → List ℕ
lefts run = take (middle (length run)) run

-- The right branch.
abbrev pub rights : List ℕ → List ℕ
rights run = drop (middle (length run) + 1) run
