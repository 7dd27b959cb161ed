-- The program's answer to a text: number 10 if the text says no numbers; else what arranging and listing give, printed.
-- The buffers of both calls may hold anything at first, with room for the numbers of the shelf.
use Rattle.std.specs.Prelude.{◌≡◌, ◌≢◌, List, ℕ, ◌≤◌, length, take, replicate, ℤ}
use Rattle.terms.specs.declared.Arranging.{Arranging}
use Rattle.terms.specs.declared.Listing.{Listing}
use Rattle.terms.specs.Lent.{Stock, Order, Faces, stock, faces}
use Rattle.terms.specs.Points.{slots_of}
use Rattle.terms.specs.Tree.{shelf_run}
use Rattle.terms.specs.ArrangeCall.{ArrangedAs}
use Rattle.terms.specs.ListCall.{list_answer, list_after}
use Rattle.text.specs.Input.{Says}
use Rattle.text.specs.Answer.{answer_text, refused_text}

-- What is printed of a listing that is done: the slots, the three counts, the places.
abbrev pub done_text : Stock → Order → Listing → List ℕ → List ℕ
done_text s o answer list = answer_text (shelf_run s o) answer.inside answer.outside answer.visits (take (slots_of s) list)

-- What is printed for an order that was arranged: the list call's refusal, or its lists.
pub data Listed (s : Stock) (o : Order) (f : Faces) (printed : List ℕ) : Type 0 where
  list_refused : (list : List ℕ) → slots_of s ≤ length list → (list_answer s o f list).code ≢ 0
      → printed ≡ refused_text (list_answer s o f list).code → Listed s o f printed
  list_done : (list : List ℕ) → slots_of s ≤ length list → (list_answer s o f list).code ≡ 0
      → printed ≡ done_text s o (list_answer s o f list) (list_after s o f list) → Listed s o f printed

-- What is printed for the numbers of a text: the arrange call's refusal, or what listing the arranged order gives.
pub data Shelved (s : Stock) (f : Faces) (printed : List ℕ) : Type 0 where
  arrange_refused : (o after : Order) (answer : Arranging) → slots_of s ≤ length o.slots → ArrangedAs s o answer after → answer.code ≢ 0
      → printed ≡ refused_text answer.code → Shelved s f printed
  arrange_done : (o after : Order) (answer : Arranging) → slots_of s ≤ length o.slots → ArrangedAs s o answer after → answer.code ≡ 0
      → Listed s after f printed → Shelved s f printed

-- What is printed for a text; its faces are closed, and its points all live.
pub data Answer (text printed : List ℕ) : Type 0 where
  not_the_text : ((k n h : ℕ) (points normals offsets : List ℤ) → Says text k n h points normals offsets → ⊥)
      → printed ≡ refused_text 10 → Answer text printed
  the_text : {k n h : ℕ} {points normals offsets : List ℤ} → Says text k n h points normals offsets
      → Shelved (stock k n points (replicate n 1)) (faces h normals offsets (replicate h 0)) printed → Answer text printed

-- The first r bytes of the output are a text of this kind.
pub record Writes (Kind : List ℕ → Type 0) (out : List ℕ) (r : ℕ) : Type 0 where
  pub inside : r ≤ length out
  pub kind : Kind (take r out)
