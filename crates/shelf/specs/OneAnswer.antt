-- A text has one answer: two outputs that are the answer to one text are equal. The text says at most one set of numbers, their shelf is one order, and
-- the list call reads of its buffer only that it has room, so what the buffers held at first cannot be seen.
use Rattle.std.specs.Prelude.{◌≡◌, List, ℕ, ◌≤◌, length, take, ltb}
use Rattle.std.proofs.Common.{sym, ap, ◌∙◌, arith, length-take-le, ltb-true}
use Rattle.terms.specs.declared.Arranging.{Arranging}
use Rattle.terms.specs.Lent.{Stock, Order, Faces}
use Rattle.terms.specs.Points.{point_of, slots_of}
use Rattle.terms.specs.Tree.{shelf_run}
use Rattle.terms.specs.Region.{region}
use Rattle.terms.specs.Lists.{places}
use Rattle.terms.specs.ArrangeCall.{ArrangedAs}
use Rattle.terms.specs.ListCall.{list_answer, list_after}
use Rattle.theory.specs.Flags.{same_test}
use Rattle.theory.proofs.UniqueOrder.{one_shelf}
use Rattle.theory.specs.ArrangeCall.{arrange_code_reads, arranged_code}
use Rattle.theory.specs.ListCall.{list_answer_code, list_front, list_answer_reads}
use Rattle.text.specs.OneToOne.{says_one}
use Rattle.shelf.specs.Answer.{Listed, list_refused, list_done, Shelved, arrange_refused, arrange_done, Answer, not_the_text, the_text, Writes}

-- Buffers with room for n numbers look alike to the length test.
rooms : {n : ℕ} (xs ys : List ℕ) → n ≤ length xs → n ≤ length ys → ltb (length xs) n ≡ ltb (length ys) n
rooms {n} xs ys a b = same_test (λ t. absurd (omega (arith, ltb-true (length xs) n t))) (λ t. absurd (omega (arith, ltb-true (length ys) n t)))

-- Buffers with room for the slots get one number from the arrange call.
number_one : {s : Stock} {o q after later : Order} {c d : Arranging} → slots_of s ≤ length o.slots → slots_of s ≤ length q.slots → ArrangedAs s o c after
    → ArrangedAs s q d later → c.code ≡ d.code
number_one {s} {o} {q} a b v w = arranged_code v ∙ arrange_code_reads s o q (rooms o.slots q.slots a b) ∙ sym (arranged_code w)

module _ {s : Stock} {f : Faces} where
  -- Orders that agree in their first v slots are listed alike.
  listed_one : {o u : Order} {p q : List ℕ} → shelf_run s o ≡ shelf_run s u → Listed s o f p → Listed s u f q → p ≡ q
  listed_one {o} {u} {p} {q} e v w = go v w
    where
      same : (l m : List ℕ) → slots_of s ≤ length l → slots_of s ≤ length m → list_answer s o f l ≡ list_answer s u f m
      same l m a b = list_answer_reads s o u f l m e (rooms l m a b)

      first : (o : Order) (l : List ℕ) → (list_answer s o f l).code ≡ 0
          → take (slots_of s) (list_after s o f l) ≡ places (region s.k f) (point_of s) (shelf_run s o)
      first o l z = list_front s o f l (sym (list_answer_code s o f l) ∙ z)

      go : Listed s o f p → Listed s u f q → p ≡ q
      go (list_refused l a r x) (list_refused m b t y) = x ∙ rw (same l m a b) (sym y)
      go (list_refused l a r x) (list_done m b t y) = absurd (r (rw (same l m a b) t))
      go (list_done l a r x) (list_refused m b t y) = absurd (t (rw (← same l m a b) r))
      go (list_done l a r x) (list_done m b t y) = x ∙ rw (first o l r, same l m a b, e) (sym (rw (first u m t) at y))

  -- The numbers of a text leave one output.
  shelved_one : {p q : List ℕ} → Shelved s f p → Shelved s f q → p ≡ q
  shelved_one (arrange_refused o x c a v m e) (arrange_refused u y d b w t g) = e ∙ rw (number_one a b v w) (sym g)
  shelved_one (arrange_refused o x c a v m e) (arrange_done u y d b w t z) = absurd (m (number_one a b v w ∙ t))
  shelved_one (arrange_done o x c a v m l) (arrange_refused u y d b w t g) = absurd (t (sym (number_one a b v w) ∙ m))
  shelved_one (arrange_done o x c a v m l) (arrange_done u y d b w t z) = listed_one (one_shelf s x y (v.arranged m) (w.arranged t)) l z

-- "A contract determines its answer": the output is determined by the text.
pub one_answer : {text p q : List ℕ} → Answer text p → Answer text q → p ≡ q
one_answer (not_the_text m e) (not_the_text t f) = e ∙ sym f
one_answer (not_the_text m e) (the_text s w) = absurd (m _ _ _ _ _ _ s)
one_answer (the_text s w) (not_the_text m e) = absurd (m _ _ _ _ _ _ s)
one_answer (the_text s v) (the_text t w) =
    let (ek, en, eh, ep, es, eo) = says_one s t in
    shelved_one v (rw (← ek, ← en, ← eh, ← ep, ← es, ← eo) at w)

-- So is how many bytes are written.
pub one_output : {text out after : List ℕ} {r s : ℕ} → Writes (Answer text) out r → Writes (Answer text) after s → (r ≡ s) × (take r out ≡ take s after)
one_output {out = out} {after} {r} {s} v w =
    let e = one_answer v.kind w.kind in
    (omega (arith, ap length e, length-take-le r out v.inside, length-take-le s after w.inside), e)
