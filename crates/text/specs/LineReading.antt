-- Lines: a row with a space behind each number, then a last number with a newline behind it.
use Rattle.std.specs.Prelude.{◌≡◌, refl, Bool, true, false, not, ℕ, suc, ◌+◌, ◌≤◌, length, set, ℤ, pos}
use Rattle.std.proofs.Common.{sym, ◌∙◌, add-one, arith, take_all, take-suc}
use Rattle.std.proofs.Math.Path.{ap}
use mathlib.Core.List.{List, [], ◌∷◌, ◌++◌, append_assoc}
use Rattle.std.proofs.Math.ListN.{get_or, take, drop, length-append}
use Rattle.std.proofs.Math.Seq.{length-take-le, take-set-le}
use Rattle.terms.specs.Tests.{every}
use Rattle.theory.specs.Flags.{and_true, true_and, not_true, not_false, clash}
use Rattle.text.specs.Decimal.{written}
use Rattle.text.specs.Input.{space, newline, behind, numbers, line, is_signed32}
use Rattle.text.specs.OneToOne.{numbers_end}
use Rattle.text.specs.Reading.{Stands, stands_then, Reads, hits, misses, InRange, ReadsNumber}
use Rattle.text.specs.Ranges.{every_parts, parts_every, signed_range, range_signed}
use Rattle.text.specs.Parts.{take_front, part_back}
use Rattle.text.specs.RowReading.{spaced, Row, ReadsInto, stored_row}

behind_more : (xs : List ℤ) (z : ℤ) → behind (xs ++ (z ∷ [])) ≡ space
behind_more [] z = refl
behind_more (x ∷ xs) z = refl

pub line_last : (xs : List ℤ) (z : ℤ) → line (xs ++ (z ∷ [])) ≡ spaced xs ++ (written z ++ (newline ∷ []))
unfolding numbers
line_last [] z = refl
line_last (x ∷ xs) z =
    rw (behind_more xs z, line_last xs z) (sym (append_assoc (written x) (space ∷ spaced xs) (written z ++ (newline ∷ []))))

line_cut : (xs : List ℤ) (z : ℤ) (rest : List ℕ) → line (xs ++ (z ∷ [])) ++ rest ≡ spaced xs ++ ((written z ++ (newline ∷ [])) ++ rest)
line_cut xs z rest = rw (line_last xs z) (append_assoc (spaced xs) (written z ++ (newline ∷ [])) rest)

-- The numbers that a line may have: count of 32 signed bits, and the last within a range.
pub record LineRange (count deepest greatest : ℕ) (front : List ℤ) (last : ℤ) : Type 0 where
  pub row : Row count front
  pub range : InRange deepest greatest last

-- What reading a line promises: the numbers in front go to places, the last one is the answer.
pub record ReadsLine (text : List ℕ) (at count deepest greatest place : ℕ) (before after : List ℤ) (ok : Bool) (last : ℤ) (next : ℕ) : Type 0 where
  pub kept : ok ≡ true → take place after ≡ take place before
  pub reads : Reads {A = List ℤ × ℤ}
      (λ l. LineRange count deepest greatest l.0 l.1)
      (λ l. line (l.0 ++ (l.1 ∷ [])))
      text at ok (take count (drop place after), last) next

module _ {text : List ℕ} {at count place next : ℕ} {before after : List ℤ} {ok : Bool} (front : ReadsInto spaced text at count place before after ok next)
    (deepest greatest : ℕ) where
  pub line_miss : not ok ≡ true → ReadsLine text at count deepest greatest place before after false (pos 0) 0
  line_miss n = record { kept = λ t. clash t refl; reads = misses go }
    where
      go : (l : List ℤ × ℤ) (rest : List ℕ) → LineRange count deepest greatest l.0 l.1 → drop at text ≡ line (l.0 ++ (l.1 ∷ [])) ++ rest → ⊥
      go (xs, z) rest a b = front.reads.missed (not_true ok n) xs ((written z ++ (newline ∷ [])) ++ rest) a.row (b ∙ line_cut xs z rest)

  pub line_then : {v : ℤ} {next' : ℕ} {ok' : Bool} → not ok ≡ false → ReadsNumber text next newline deepest greatest ok' v next'
      → ReadsLine text at count deepest greatest place before after ok' v next'
  line_then {v} {next'} {ok'} y number = record {
    kept = λ _. front.kept yes';
    reads = record {
      allowed = λ o. record { row = row; range = number.allowed o };
      found = λ o. rw (line_last ps v) (stands_then stands (number.found o));
      missed = go;
    };
  }
    where
      yes' : ok ≡ true
      yes' = not_false ok y

      ps : List ℤ
      ps = take count (drop place after)

      row : Row count (take count (drop place after))
      row = front.reads.allowed yes'

      stands : Stands text at next (spaced (take count (drop place after)))
      stands = front.reads.found yes'

      go : ok' ≡ false → (l : List ℤ × ℤ) (rest : List ℕ) → LineRange count deepest greatest l.0 l.1
          → drop at text ≡ line (l.0 ++ (l.1 ∷ [])) ++ rest → ⊥
      go n (xs, z) rest a b =
          let e : spaced ps ++ drop next text ≡ spaced xs ++ ((written z ++ (newline ∷ [])) ++ rest) = sym stands.bytes ∙ b ∙ line_cut xs z rest in
          let q = numbers_end (λ ys. omega arith) ps xs (row.size ∙ sym a.row.size) e in
          number.missed n z rest a.range q.1

-- A line that was read into a part of a list was read into the list, from the part's place on.
pub line_part : {text : List ℕ} {at deepest greatest next : ℕ} {was part : List ℤ} {ok : Bool} {last : ℤ} (count place : ℕ) (before back : List ℤ)
    → place ≤ length before → length was ≡ count → length part ≡ length was
    → ReadsLine text at (length was) deepest greatest 0 was part ok last next
    → ReadsLine text at count deepest greatest place before (take place before ++ (part ++ back)) ok last next
line_part {part = part} count place before back l c p read =
    let size = length-take-le place before l in record {
      kept = λ _. take_front (take place before) (part ++ back) size;
      reads = rw (part_back place count (take place before) part back size (p ∙ c)) (rw c at read.reads);
    }

-- ---- the line of a point
split_last : (j : ℕ) (ys : List ℤ) → length ys ≡ suc j → ys ≡ take j ys ++ (get_or ys j (pos 0) ∷ [])
split_last j ys l = sym (take_all (suc j) ys (omega arith)) ∙ take-suc ys j (pos 0) (omega arith)

module _ {text : List ℕ} {at place next j : ℕ} {before after : List ℤ} {ok : Bool} {v : ℤ}
    (read : ReadsLine text at j 2147483648 2147483647 place before after ok v next) where
  pub point_miss : not ok ≡ true → ReadsInto line text at (suc j) place before after false 0
  unfolding every
  point_miss n = record { kept = λ t. clash t refl; reads = misses go }
    where
      go : (ys : List ℤ) (rest : List ℕ) → Row (suc j) ys → drop at text ≡ line ys ++ rest → ⊥
      go ys rest r b =
          let e = split_last j ys r.size in
          let p = every_parts is_signed32 (take j ys) (get_or ys j (pos 0) ∷ []) (rw e at r.range) in
          let a : LineRange j 2147483648 2147483647 (take j ys) (get_or ys j (pos 0)) = record {
            row = record { size = length-take-le j ys (omega (arith, r.size)); range = p.0 };
            range = signed_range (get_or ys j (pos 0)) (and_true (is_signed32 (get_or ys j (pos 0))) p.1).0;
          } in
          read.reads.missed (not_true ok n) (take j ys, get_or ys j (pos 0)) rest a (b ∙ ap (λ (xs : List ℤ). line xs ++ rest) e)

  pub point_hit : not ok ≡ false → place + suc j ≤ length after → ReadsInto line text at (suc j) place before (set after (place + j) v) true next
  unfolding every
  point_hit y l =
      let o = not_false ok y in
      let a = read.reads.allowed o in
      let e : take (suc j) (drop place (set after (place + j) v)) ≡ take j (drop place after) ++ (v ∷ []) =
      rw (← add-one) (stored_row place j after v (omega arith)) in record {
        kept = λ _. take-set-le place after (place + j) v (omega arith) ∙ read.kept o;
        reads = rw e (hits
            (record {
              size = rw length-append (omega (arith, a.row.size));
              range = parts_every is_signed32 (take j (drop place after)) (v ∷ []) a.row.range (true_and (range_signed v a.range) refl);
            })
            (read.reads.found o));
      }
