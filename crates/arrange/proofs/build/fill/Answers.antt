use Rattle.std.proofs.Common.{ℕ, arith, length, sym, ◌∙◌}
use Rattle.theory.specs.RisingNumbers.{length_rising, rising_at, members_shelf}
use Rattle.terms.specs.Tests.{rising}
use Rattle.arrange.specs.WrittenInPlace.{written_all}
use Rattle.arrange.proofs.build.fill.Goals as goal

pub returns : goal.returns
returns c =
    let n : ℕ = length c.args.order.now in
    written_all (rising 0 n) c.loop-p.invariant (omega arith) (length_rising 0 n) (λ i l. rising_at 0 n i 0 l ∙ omega arith)
    ∙ sym (members_shelf n)
