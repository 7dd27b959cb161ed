-- Rows of numbers with a space behind each, read into places of a list. What was read stands in the text; and whoever thinks that another row begins
-- there must agree with what was read, number by number, so a number that is missed is missed in every such row.
use Rattle.std.specs.Prelude.{◌≡◌, refl, Bool, true, false, not, List, [], ◌∷◌, ◌++◌, ℕ, ◌+◌, ◌≤◌, ◌<◌, length, take, drop, set, ℤ}
use Rattle.std.proofs.Common.{sym, ◌∙◌, append_assoc, add-one, arith, length-set, length-take, length-drop, length-take-le, take-suc-set}
use Rattle.std.proofs.lemmas.List.{drop-set-add, take-set-le}
use Rattle.terms.specs.Tests.{every}
use Rattle.theory.specs.Flags.{and_true, not_true, clash}
use Rattle.text.specs.Decimal.{written}
use Rattle.text.specs.Input.{space, numbers, is_signed32}
use Rattle.text.specs.OneToOne.{written_end}
use Rattle.text.specs.Reading.{Stands, stands_none, stands_then, Reads, hits, misses, InRange, ReadsNumber}
use Rattle.text.specs.Parts.{take_front, part_back}
use Rattle.text.specs.Ranges.{signed_range, range_signed, parts_every}

-- Numbers with a space behind each.
abbrev pub spaced : List ℤ → List ℕ
spaced xs = numbers (λ ys. space) xs

spaced_more : (xs : List ℤ) (z : ℤ) → spaced (xs ++ (z ∷ [])) ≡ spaced xs ++ (written z ++ (space ∷ []))
unfolding numbers
spaced_more [] z = refl
spaced_more (x ∷ xs) z = rw (spaced_more xs z) (sym (append_assoc (written x) (space ∷ spaced xs) (written z ++ (space ∷ []))))

-- The number behind ps in a row ys that begins with the same bytes.
spaced_cut : (ps ys : List ℤ) {r : List ℕ} (s : List ℕ) → length ps < length ys → every is_signed32 ys ≡ true → spaced ps ++ r ≡ spaced ys ++ s
    → (z : ℤ) × (rest : List ℕ) × (is_signed32 z ≡ true) × (r ≡ written z ++ (space ∷ []) ++ rest)
unfolding numbers every
spaced_cut [] [] s l a e = absurd (omega arith)
spaced_cut [] (y ∷ ys) {r} s l a e = (
  y,
  spaced ys ++ s,
  (and_true (is_signed32 y) a).0,
  e ∙ append_assoc (written y) (space ∷ spaced ys) s ∙ sym (append_assoc (written y) (space ∷ []) (spaced ys ++ s)),
)
spaced_cut (p ∷ ps) [] s l a e = absurd (omega arith)
spaced_cut (p ∷ ps) (y ∷ ys) {r} s l a e =
    let e' : written p ++ (space ∷ (spaced ps ++ r)) ≡ written y ++ (space ∷ (spaced ys ++ s)) =
    sym (append_assoc (written p) (space ∷ spaced ps) r) ∙ e ∙ append_assoc (written y) (space ∷ spaced ys) s in
    let q = (written_end p y (omega arith) (omega arith) e').1 in
    spaced_cut ps ys s (omega arith) (and_true (is_signed32 y) a).1 cc

-- count numbers of 32 signed bits.
pub record Row (count : ℕ) (xs : List ℤ) : Type 0 where
  pub size : length xs ≡ count
  pub range : every is_signed32 xs ≡ true

-- The places from `place` on that hold the j numbers read so far; the places before are as they were.
pub record Filling (text : List ℕ) (at place : ℕ) (before into : List ℤ) (j next : ℕ) : Type 0 where
  pub size : length into ≡ length before
  pub kept : take place into ≡ take place before
  pub range : every is_signed32 (take j (drop place into)) ≡ true
  pub stands : Stands text at next (spaced (take j (drop place into)))

-- What reading a row into places promises.
pub record ReadsInto (writing : List ℤ → List ℕ) (text : List ℕ) (at count place : ℕ) (before after : List ℤ) (ok : Bool) (next : ℕ) : Type 0 where
  pub kept : ok ≡ true → take place after ≡ take place before
  pub reads : Reads (Row count) writing text at ok (take count (drop place after)) next

-- A row that was read into a part of a list was read into the list, from the part's place on.
pub into_part : {writing : List ℤ → List ℕ} {text : List ℕ} {at next : ℕ} {was part : List ℤ} {ok : Bool} (count place : ℕ) (before back : List ℤ)
    → place ≤ length before → length was ≡ count → length part ≡ length was → ReadsInto writing text at (length was) 0 was part ok next
    → ReadsInto writing text at count place before (take place before ++ (part ++ back)) ok next
into_part {part = part} count place before back l c p read =
    let size = length-take-le place before l in record {
      kept = λ _. take_front (take place before) (part ++ back) size;
      reads = rw (part_back place count (take place before) part back size (p ∙ c)) (rw c at read.reads);
    }

pub filling_none : {text : List ℕ} {at : ℕ} (place : ℕ) (into : List ℤ) → at ≤ length text → Filling text at place into into 0 at
unfolding numbers every
filling_none place into l = record { size = refl; kept = refl; range = refl; stands = stands_none l }

pub stored_row : (place j : ℕ) (into : List ℤ) (z : ℤ) → place + j < length into
    → take (j + 1) (drop place (set into (place + j) z)) ≡ take j (drop place into) ++ (z ∷ [])
stored_row place j into z l =
    let s : j < length (drop place into) = rw length-drop (omega arith) in
    rw (add-one, drop-set-add place into j z) (take-suc-set (drop place into) j z s)

pub filling_more : {text : List ℕ} {at place j next next' : ℕ} {before into : List ℤ} {z : ℤ} → Filling text at place before into j next
    → place + j < length before → InRange 2147483648 2147483647 z → Stands text next next' (written z ++ (space ∷ []))
    → Filling text at place before (set into (place + j) z) (j + 1) next'
unfolding every
filling_more {place = place} {j} {before = before} {into} {z} f l r s =
    let l' : place + j < length into = omega (arith, f.size) in record {
      size = length-set into (place + j) z ∙ f.size;
      kept = take-set-le place into (place + j) z (omega arith) ∙ f.kept;
      range = rw (stored_row place j into z l') (parts_every is_signed32 (take j (drop place into)) (z ∷ []) f.range (rw (range_signed z r)));
      stands = rw (stored_row place j into z l', spaced_more (take j (drop place into)) z) (stands_then f.stands s);
    }

pub filling_done : {text : List ℕ} {at place count next : ℕ} {before into : List ℤ} → Filling text at place before into count next
    → place + count ≤ length before → ReadsInto spaced text at count place before into true next
filling_done {place = place} {count} {into = into} f l = record {
  kept = λ _. f.kept;
  reads = hits (record { size = rw (length-take, length-drop) (omega (arith, f.size)); range = f.range }) f.stands;
}

pub filling_miss : {text : List ℕ} {at place count j next next' : ℕ} {before into : List ℤ} {v : ℤ} {ok : Bool}
    → Filling text at place before into j next → place + count ≤ length before → j < count
    → ReadsNumber text next space 2147483648 2147483647 ok v next' → not ok ≡ true → ReadsInto spaced text at count place before into false 0
filling_miss {text} {at} {place} {count} {j} {next} {into = into} {ok = ok} f l m n o = record { kept = λ t. clash t refl; reads = misses go }
  where
    go : (ys : List ℤ) (rest : List ℕ) → Row count ys → drop at text ≡ spaced ys ++ rest → ⊥
    go ys rest r b =
        let size : length (take j (drop place into)) ≡ j = rw (length-take, length-drop) (omega (arith, f.size)) in
        let c = spaced_cut (take j (drop place into)) ys rest (omega (arith, r.size)) r.range (sym f.stands.bytes ∙ b) in
        n.missed (not_true ok o) c.0 c.1 (signed_range c.0 c.2) c.3
