-- A pass that writes a value in each place, one after the other: each number's own value under a function.
use Rattle.std.specs.Prelude.{◌≡◌, refl, ◌⊎◌, List, [], ◌∷◌, map, ℕ, zero, suc, ◌+◌, ◌≤◌, ◌<◌, length, get_or, set}
use Rattle.std.proofs.Common.{sym, ap, ◌∙◌, inl, inr, not-suc-le-zero, le_of_suc-le-suc, arith, length-set, ext_get_or, get_or-set_same, get_or-set_other}
use Rattle.std.proofs.lemmas.List.{length-map}
use Rattle.arrange.specs.Rearranged.{below_or_from}

-- The pass has come to the place t: the places before it hold their values, the others are as they were.
pub record WrittenTo (value : ℕ → ℕ) (xs ys : List ℕ) (t : ℕ) : Type 0 where
  pub size : length ys ≡ length xs
  pub done : (i : ℕ) → i < t → get_or ys i 0 ≡ value i
  pub later : (i : ℕ) → t ≤ i → get_or ys i 0 ≡ get_or xs i 0

pub written_none : (value : ℕ → ℕ) (xs : List ℕ) → WrittenTo value xs xs 0
written_none value xs = record { size = refl; done = λ i h. absurd (omega arith); later = λ i h. refl }

pub written_turn : {value : ℕ → ℕ} {xs ys : List ℕ} {t v : ℕ} → WrittenTo value xs ys t → t < length ys → v ≡ value t
    → WrittenTo value xs (set ys t v) (t + 1)
written_turn {value} {xs} {ys} {t} {v} w h e = record {
  size = rw length-set w.size;
  done = λ i l. go i l (below_or_from i t);
  later = λ i l. get_or-set_other ys t i v 0 (λ q. omega arith) ∙ w.later i (omega arith);
}
  where
    go : (i : ℕ) → i < t + 1 → (i < t) ⊎ (t ≤ i) → get_or (set ys t v) i 0 ≡ value i
    go i l (inl s) = get_or-set_other ys t i v 0 (λ q. omega arith) ∙ w.done i s
    go i l (inr s) = let q : i ≡ t = omega arith in rw q (get_or-set_same ys t v 0 h ∙ e)

pub written_all : {value : ℕ → ℕ} {xs ys : List ℕ} {t : ℕ} (zs : List ℕ) → WrittenTo value xs ys t → length ys ≤ t → length zs ≡ length xs
    → ((i : ℕ) → i < length xs → get_or zs i 0 ≡ value i) → ys ≡ zs
written_all {ys = ys} zs w h n at =
    let s = w.size in
    ext_get_or 0 ys zs (omega arith) (λ i l. w.done i (omega arith) ∙ sym (at i (omega arith)))

-- The values of the numbers under a function.
pub map_at : (f : ℕ → ℕ) (xs : List ℕ) (i : ℕ) → i < length xs → get_or (map f xs) i 0 ≡ f (get_or xs i 0)
map_at f [] i h = absurd (not-suc-le-zero h)
map_at f (x ∷ xs) zero h = refl
map_at f (x ∷ xs) (suc i) h = map_at f xs i (le_of_suc-le-suc h)

-- The pass that writes each number's value in its place has come to t.
abbrev pub MappedTo : (ℕ → ℕ) → List ℕ → List ℕ → ℕ → Type 0
MappedTo f xs ys t = WrittenTo (λ i. f (get_or xs i 0)) xs ys t

pub mapped_turn : (f : ℕ → ℕ) {xs ys : List ℕ} {t v : ℕ} → MappedTo f xs ys t → t < length ys → v ≡ f (get_or ys t 0)
    → MappedTo f xs (set ys t v) (t + 1)
mapped_turn f {t = t} w h e = written_turn w h (e ∙ ap f (w.later t (omega arith)))

pub mapped_all : (f : ℕ → ℕ) {xs ys : List ℕ} {t : ℕ} → MappedTo f xs ys t → length ys ≤ t → ys ≡ map f xs
mapped_all f {xs} w h = written_all (map f xs) w h (length-map xs f) (map_at f xs)
