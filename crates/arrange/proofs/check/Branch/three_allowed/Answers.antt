use Rattle.std.proofs.Common.{◌≡◌, Bool, ◌&&◌, ℕ, sym, ap, ◌∙◌, arith, get_or}
use Rattle.terms.specs.Points.{below}
use Rattle.arrange.specs.Key.{key_of}
use Rattle.arrange.specs.Allowed.{is_within, all_three, each_of_three, of_each_of_three, not_belonging, not_within, all_within_lem}
use Rattle.arrange.specs.Checked.{run_keyed}
use Rattle.arrange.specs.Looked.{looked_known}
use Rattle.arrange.proofs.check.Branch.three_allowed.Goals as goal

-- Three calls that answer a test.
three_answers : (test : ℕ → Bool) (p q r : ℕ) {a b c : Bool} → a ≡ test p → b ≡ test q → c ≡ test r → all_three test p q r ≡ a && b && c
three_answers test p q r e f g = rw (e, f, g)

pub returns-then-not-is_below : goal.returns-then-not-is_below
returns-then-not-is_below c =
    let a = c.args in
    let b = a.self.now in
    let run = b.order.now in
    sym (not_belonging _ _ _ _ _ _ _ _ (
    three_answers
    (below b.stock.now.n) (get_or run a.i 0) (get_or run a.j 0) (get_or run a.h 0) c.is_below.ensures c.is_below-2.ensures c.is_below-3.ensures
    ∙ c.if-not-is_below.true
    ))

pub loop-d-init : goal.loop-d-init
loop-d-init c =
    let a = c.args in
    let b = a.self.now in
    let run = b.order.now in
    let test = below b.stock.now.n in
    let all =
    three_answers test (get_or run a.i 0) (get_or run a.j 0) (get_or run a.h 0) c.is_below.ensures c.is_below-2.ensures c.is_below-3.ensures
    ∙ c.if-not-is_below.false in
    record { below = each_of_three test _ _ _ all; few = omega arith; within = λ i l. absurd (omega arith) }

pub returns-then-self-d : goal.returns-then-self-d
returns-then-self-d c = let l = c.loop-d.invariant in sym (all_within_lem _ _ _ _ _ _ _ _ (of_each_of_three _ _ _ _ l.below) (λ d h. l.within d (omega arith)))

pub key-x-requires : goal.key-x-requires
key-x-requires c =
    run_keyed (looked_known c.args.self.now) c.args.i c.requires.i_in_bounds c.loop-d.invariant.below.first c.loop-d.d (omega arith)

pub key-y-requires : goal.key-y-requires
key-y-requires c =
    run_keyed (looked_known c.args.self.now) c.args.j c.requires.j_in_bounds c.loop-d.invariant.below.second c.loop-d.d (omega arith)

pub key-z-requires : goal.key-z-requires
key-z-requires c =
    run_keyed (looked_known c.args.self.now) c.args.h c.requires.h_in_bounds c.loop-d.invariant.below.third c.loop-d.d (omega arith)

pub returns-then-not-hold : goal.returns-then-not-hold
returns-then-not-hold c =
    let b = c.args.self.now in
    let d = c.loop-d.d in
    let within = is_within c.args.bounds.now.least c.args.bounds.now.end d in
    let key = key_of b.stock.now.k b.stock.now.points.now d in
    sym (not_within _ _ _ _ _ _ _ _ d (omega arith) (
    three_answers
    (λ n. within (key n)) _ _ _
    (c.hold.ensures ∙ ap within c.key-x.ensures) (c.hold-in-loop-d.ensures ∙ ap within c.key-y.ensures)
    (c.hold-in-loop-d-2.ensures ∙ ap within c.key-z.ensures)
    ∙ c.if-not-hold.true
    ))

pub returns : goal.returns
returns c =
    let l = c.loop-d.invariant in
    let few = c.args.self.now.tested.few in
    sym (all_within_lem _ _ _ _ _ _ _ _ (of_each_of_three _ _ _ _ l.below) (λ d h. l.within d (omega arith)))
