-- The digits end before the first byte that is none.
use Rattle.std.proofs.Common.{drop, ◌∙◌, arith, rules, tests}
use Rattle.std.proofs.lemmas.Iterator.{IsFirst-from_position, YieldsList-from_slice}
use Rattle.std.proofs.lemmas.List.{take_rest}
use Rattle.std.proofs.option.Match.{if_some, if_none}
use Rattle.text.specs.DecimalLaws.{NoDigit}
use Rattle.text.specs.DigitRuns.{Digit, digits_to, digits_through}
use Rattle.text.proofs.cursor.Cursor.digits_end.Goals as goal

pub returns-in-Some : goal.returns-in-Some
returns-in-Some c =
    let text = c.args.self.now.text.now in
    let at = c.args.self.now.at in
    let rest = YieldsList-from_slice (drop at text) (c.iter.ensures.rest ∙ take_rest text at) in
    let first =
    if_some _ _ _ c.in-Some.is
    (IsFirst-from_position _ _ _ NoDigit Digit c.position.ensures.ran rest
    (λ x q k. search (rules, tests)) (λ x q k. search (rules, tests))) in
    digits_to at c.in-Some.count text (omega arith) first.0 first.2 (first.1 0)

pub returns-in-None : goal.returns-in-None
returns-in-None c =
    let text = c.args.self.now.text.now in
    let at = c.args.self.now.at in
    let rest = YieldsList-from_slice (drop at text) (c.iter.ensures.rest ∙ take_rest text at) in
    let each =
    if_none _ _ c.in-None.is
    (IsFirst-from_position _ _ _ NoDigit Digit c.position.ensures.ran rest
    (λ x q k. search (rules, tests)) (λ x q k. search (rules, tests))) in
    digits_through at text (omega arith) each
