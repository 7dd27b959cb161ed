-- Line 1: three natural numbers within their ranges.
use Rattle.std.specs.Prelude.{◌≡◌, Bool, true, false, not, List, [], ◌∷◌, ◌++◌, ℕ, ◌≤◌, drop, pos}
use Rattle.std.proofs.Common.{◌∙◌, append_assoc, arith}
use Rattle.theory.specs.Flags.{not_true, not_false}
use Rattle.text.specs.Decimal.{decimal, written}
use Rattle.text.specs.Input.{space, newline, numbers, line}
use Rattle.text.specs.Reading.{stands_then, Reads, hits, misses, Size, ReadsSize}
use Rattle.text.specs.NumberReading.{natural_one}

-- The sizes that a text may have.
pub record HeadRange (k n h : ℕ) : Type 0 where
  pub some : 1 ≤ k
  pub few : k ≤ 9
  pub points_few : n ≤ 512
  pub faces_few : h ≤ 64

-- What reading line 1 promises.
abbrev pub ReadsHead : List ℕ → Bool → ℕ → ℕ → ℕ → ℕ → Type 0
ReadsHead text ok k n h next =
    Reads {A = ℕ × ℕ × ℕ}
    (λ s. HeadRange s.0 s.1 s.2)
    (λ s. line (pos s.0 ∷ pos s.1 ∷ pos s.2 ∷ []))
    text 0 ok (k, n, h) next

-- A natural number with a byte behind it.
abbrev item : ℕ → ℕ → List ℕ
item m stop = decimal m ++ (stop ∷ [])

head_line : (k n h : ℕ) → line (pos k ∷ pos n ∷ pos h ∷ []) ≡ item k space ++ (item n space ++ item h newline)
unfolding numbers written
head_line k n h =
    rw (append_assoc (decimal k) (space ∷ []) (item n space ++ item h newline), append_assoc (decimal n) (space ∷ []) (item h newline))

head_cut : (k n h : ℕ) (rest : List ℕ) → line (pos k ∷ pos n ∷ pos h ∷ []) ++ rest ≡ item k space ++ (item n space ++ (item h newline ++ rest))
head_cut k n h rest =
    rw (head_line k n h, append_assoc (item k space) (item n space ++ item h newline) rest, append_assoc (item n space) (item h newline) rest)

-- Where no first line begins, nothing is found.
no_head : {text : List ℕ}
    → ((k n h : ℕ) (rest : List ℕ) → HeadRange k n h → drop 0 text ≡ item k space ++ (item n space ++ (item h newline ++ rest)) → ⊥)
    → ReadsHead text false 0 0 0 0
no_head none = misses (λ s rest r e. none s.0 s.1 s.2 rest r (e ∙ head_cut s.0 s.1 s.2 rest))

module _ {text : List ℕ} {k next least most : ℕ} {ok : Bool} (read-k : ReadsSize text 0 space least most ok k next) where
  pub head_miss_k : ((m : ℕ) → 1 ≤ m → m ≤ 9 → Size least most m) → not ok ≡ true → ReadsHead text false 0 0 0 0
  head_miss_k each m =
      no_head (λ a b c rest r e. read-k.missed (not_true ok m) a (item b space ++ (item c newline ++ rest)) (each a r.some r.few) e)

  module _ (yes-k : not ok ≡ false) {n next-n least-n most-n : ℕ} {ok-n : Bool} (read-n : ReadsSize text next space least-n most-n ok-n n next-n) where
    -- Behind k.
    after_k : (a : ℕ) (rest : List ℕ) → drop 0 text ≡ item a space ++ rest → drop next text ≡ rest
    after_k a rest e = (natural_one (omega arith) (read-k.found (not_false ok yes-k)) a rest e).1

    pub head_miss_n : ((m : ℕ) → m ≤ 512 → Size least-n most-n m) → not ok-n ≡ true → ReadsHead text false 0 0 0 0
    head_miss_n each m =
        no_head (λ a b c rest r e.
        read-n.missed (not_true ok-n m) b (item c newline ++ rest) (each b r.points_few) (after_k a (item b space ++ (item c newline ++ rest)) e))

    module _ (yes-n : not ok-n ≡ false) {h next-h least-h most-h : ℕ} {ok-h : Bool} (read-h : ReadsSize text next-n newline least-h most-h ok-h h next-h) where
      pub head_miss_h : ((m : ℕ) → m ≤ 64 → Size least-h most-h m) → not ok-h ≡ true → ReadsHead text false 0 0 0 0
      head_miss_h each m =
          no_head (λ a b c rest r e.
          let behind-n = (natural_one (omega arith) (read-n.found (not_false ok-n yes-n)) b (item c newline ++ rest)
          (after_k a (item b space ++ (item c newline ++ rest)) e)).1 in
          read-h.missed (not_true ok-h m) c rest (each c r.faces_few) behind-n)

      pub head_hit : HeadRange k n h → not ok-h ≡ false → ReadsHead text true k n h next-h
      head_hit range yes-h =
          hits range
          (rw (head_line k n h)
          (stands_then (read-k.found (not_false ok yes-k)) (stands_then (read-n.found (not_false ok-n yes-n)) (read-h.found (not_false ok-h yes-h)))))
