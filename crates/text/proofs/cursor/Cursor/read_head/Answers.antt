-- Three numbers, one behind the other; the first that is missed decides.
use Rattle.std.proofs.Common.{refl, ◌∙◌, arith}
use Rattle.text.specs.HeadReading.{head_miss_k, head_miss_n, head_miss_h, head_hit}
use Rattle.text.proofs.cursor.Cursor.read_head.Goals as goal

pub returns-in_err-k-clause-found : goal.returns-in_err-k-clause-found
returns-in_err-k-clause-found c =
    let k = rw c.requires at c.in_err-k.ensures.found in
    rw c.from_residual.ensures (head_miss_k k (λ m e l. omega arith) refl)

pub returns-in_err-n-clause-found : goal.returns-in_err-n-clause-found
returns-in_err-n-clause-found c =
    let k = rw c.requires at c.in_ok-k.ensures.found in
    let n = rw c.in_ok-k.ensures.text_unchanged at c.in_err-n.ensures.found in
    rw c.from_residual-in_err-n.ensures (head_miss_n k refl n (λ m l. omega arith) refl)

pub returns-in_err-h-clause-found : goal.returns-in_err-h-clause-found
returns-in_err-h-clause-found c =
    let k = rw c.requires at c.in_ok-k.ensures.found in
    let n = rw c.in_ok-k.ensures.text_unchanged at c.in_ok-n.ensures.found in
    let h = rw (c.in_ok-n.ensures.text_unchanged ∙ c.in_ok-k.ensures.text_unchanged) at c.in_err-h.ensures.found in
    rw c.from_residual-in_err-h.ensures (head_miss_h k refl n refl h (λ m l. omega arith) refl)

pub returns-clause-found : goal.returns-clause-found
returns-clause-found c =
    let k = rw c.requires at c.in_ok-k.ensures.found in
    let n = rw c.in_ok-k.ensures.text_unchanged at c.in_ok-n.ensures.found in
    let h = rw (c.in_ok-n.ensures.text_unchanged ∙ c.in_ok-k.ensures.text_unchanged) at c.in_ok-h.ensures.found in
    let a = k.allowed refl in
    let b = n.allowed refl in
    let d = h.allowed refl in
    head_hit k refl n refl h (record { some = omega arith; few = omega arith; points_few = omega arith; faces_few = omega arith }) refl
