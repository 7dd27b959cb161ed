-- What the calls promise makes up the answer: each way that the program ends is one of the answer's cases.
use Rattle.std.specs.Prelude.{◌≡◌, refl, ◌≢◌, Bool, not, true, false, List, ◌∷◌, ℕ, zero, suc, ◌*◌, ◌≤◌, length, take, replicate, ℤ}
use Rattle.std.proofs.Common.{ap, mul-le-mul, arith}
use Rattle.std.proofs.lemmas.List.{length-replicate, get_or-replicate}
use Rattle.terms.specs.declared.Arranging.{Arranging}
use Rattle.terms.specs.declared.Listing.{Listing}
use Rattle.terms.specs.Lent.{Stock, Order, Faces, stock, faces}
use Rattle.terms.specs.Live.{is_set, live_count}
use Rattle.terms.specs.Points.{slots_of}
use Rattle.terms.specs.ArrangeCall.{ArrangedAs}
use Rattle.terms.specs.ListCall.{list_answer, list_after}
use Rattle.theory.specs.Flags.{not_true, not_false}
use Rattle.theory.specs.Counting.{at_every}
use Rattle.theory.specs.LiveNumbers.{all_live}
use Rattle.text.specs.Answer.{refused_text}
use Rattle.text.specs.TextReading.{ReadsText}
use Rattle.text.specs.Printing.{Printed}
use Rattle.shelf.specs.Answer.{done_text, Listed, list_refused, list_done, Shelved, arrange_refused, arrange_done, Answer, not_the_text, the_text, Writes}

module _ {s : Stock} {o : Order} {f : Faces} (list : List ℕ) (room : slots_of s ≤ length list) {answer : Listing}
    (answers : answer ≡ list_answer s o f list) {out : List ℕ} {r : ℕ} where
  -- The list call refused.
  pub listing_refused : answer.code ≢ 0 → Printed out r (refused_text answer.code) → Writes (Listed s o f) out r
  listing_refused m p = record { inside = p.inside; kind = list_refused list room (rw (← answers) m) (rw (← answers) p.bytes) }

  -- The list call is done.
  pub listing_done : {after : List ℕ} → after ≡ list_after s o f list → answer.code ≡ 0 → Printed out r (done_text s o answer after)
      → Writes (Listed s o f) out r
  listing_done a z p = record { inside = p.inside; kind = list_done list room (rw (← answers) z) (rw (← answers, ← a) p.bytes) }

module _ {s : Stock} {f : Faces} {o after : Order} {answer : Arranging} (room : slots_of s ≤ length o.slots) (arranged : ArrangedAs s o answer after)
    {out : List ℕ} {r : ℕ} where
  -- The arrange call refused.
  pub arranging_refused : answer.code ≢ 0 → Printed out r (refused_text answer.code) → Writes (Shelved s f) out r
  arranging_refused m p = record { inside = p.inside; kind = arrange_refused o after answer room arranged m p.bytes }

  -- The arrange call is done.
  pub arranging_done : answer.code ≡ 0 → Writes (Listed s after f) out r → Writes (Shelved s f) out r
  arranging_done z w = record { inside = w.inside; kind = arrange_done o after answer room arranged z w.kind }

-- Of as many of one item the first few are so few of it.
take_replicate : {A : Type 0} (h n : ℕ) (x : A) → h ≤ n → take h (replicate n x) ≡ replicate h x
take_replicate zero n x l = refl
take_replicate (suc h) zero x l = absurd (omega arith)
take_replicate (suc h) (suc n) x l = ap (λ ys. x ∷ ys) (take_replicate h n x (omega arith))

-- Ones for all of n numbers: n are live.
pub ones_live : (n : ℕ) → n ≤ 512 → live_count n (take n (replicate 512 1)) ≡ n
ones_live n l = rw (take_replicate {A = ℕ} n 512 1 l)
    (all_live n (replicate n 1) (length-replicate n 1) (at_every is_set 0 (replicate n 1) (λ i m.
    rw (get_or-replicate {A = ℕ} n i 1 0 (omega (arith, length-replicate {A = ℕ} n 1))))))

module _ {text : List ℕ} {points normals offsets : List ℤ} {ok : Bool} {k n h : ℕ} (reads : ReadsText text points normals offsets ok k n h)
    {out : List ℕ} {r : ℕ} where
  -- The text says no numbers.
  pub answer_ten : not ok ≡ true → Printed out r (refused_text 10) → Writes (Answer text) out r
  answer_ten m p = record { inside = p.inside; kind = not_the_text (reads.silent (not_true ok m)) p.bytes }

  -- The text says numbers.
  pub answer_shelved : not ok ≡ false → Writes (Shelved (stock k n (take (k * n) points) (take n (replicate 512 1))) (faces h (take (k * h) normals) (take h offsets) (take h (replicate 64 0)))) out r → Writes (Answer text) out r
  answer_shelved y w =
      let admitted = (reads.says (not_false ok y)).admitted in
      let zeros : take {A = ℕ} h (replicate 64 0) ≡ replicate h 0 = take_replicate h 64 0 admitted.faces_few in
      let ones : take {A = ℕ} n (replicate 512 1) ≡ replicate n 1 = take_replicate n 512 1 admitted.points_few in
      record { inside = w.inside; kind = the_text (reads.says (not_false ok y)) (rw (ones, zeros) at w.kind) }

-- The sizes of what a text says, for which the buffers have room.
pub record Sizes (k n h : ℕ) : Type 0 where
  pub points : n ≤ 512
  pub faces : h ≤ 64
  pub coordinates : k * n ≤ 4608
  pub components : k * h ≤ 576

pub sizes : {text : List ℕ} {points normals offsets : List ℤ} {ok : Bool} {k n h : ℕ} → ReadsText text points normals offsets ok k n h → not ok ≡ false
    → Sizes k n h
sizes {ok = ok} reads y =
    let a = (reads.says (not_false ok y)).admitted in record {
      points = a.points_few;
      faces = a.faces_few;
      coordinates = mul-le-mul a.few a.points_few;
      components = mul-le-mul a.few a.faces_few;
    }
