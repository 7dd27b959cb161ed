-- The answers as C has them, read off what a call of the library gives: the number 0 and what was found, or the refusal's number and zeros.
use Rattle.std.specs.Prelude.{Bool, Option, Some, None, Result, Ok, Err, ℕ, pos}
use Rattle.terms.specs.declared.refusal.Refusal.{Refusal}
use Rattle.terms.specs.declared.answers.LeastMargin.{LeastMargin}
use Rattle.terms.specs.declared.answers.Listed.{Listed}
use Rattle.terms.specs.declared.answers.Screened.{Screened}
use Rattle.terms.specs.declared.answers.Placed.{Placed}
use Rattle.terms.specs.declared.Reason.{Reason}
use Rattle.terms.specs.declared.Making.{Making}
use Rattle.terms.specs.declared.Arranging.{Arranging}
use Rattle.terms.specs.declared.Listing.{Listing}
use Rattle.terms.specs.declared.Screening.{Screening}
use Rattle.terms.specs.declared.Placing.{Placing}
use Rattle.terms.specs.declared.Explaining.{Explaining}
use Rattle.terms.specs.declared.Taking.{Taking}
use Rattle.terms.specs.Tests.{bit}
use Rattle.terms.specs.RefusalNumbers.{number_of}
use Rattle.terms.specs.ExplainCall.{explaining}

-- The answer of a call that makes a point: whether one was made.
abbrev pub making_of : Result Bool Refusal → Making
making_of (Ok made) = record { code = 0; made = bit made }
making_of (Err refusal) = record { code = number_of refusal; made = 0 }

-- The answer of the arrange call: whether the order was the tree already.
abbrev pub arranging_of : Result Bool Refusal → Arranging
arranging_of (Ok already) = record { code = 0; already = bit already }
arranging_of (Err refusal) = record { code = number_of refusal; already = 0 }

-- The answer of the list call.
abbrev pub listing_of : Result Listed Refusal → Listing
listing_of (Ok listed) = record { code = 0; inside = listed.inside; outside = listed.outside; visits = listed.visits }
listing_of (Err refusal) = record { code = number_of refusal; inside = 0; outside = 0; visits = 0 }

-- The screen call's answer where it is done: a number that was found, or none.
abbrev pub found_of : Option ℕ → ℕ → Screening
found_of (Some number) visits = record { code = 0; found = 1; number = number; visits = visits }
found_of None visits = record { code = 0; found = 0; number = 0; visits = visits }

-- The answer of the screen call.
abbrev pub screening_of : Result Screened Refusal → Screening
screening_of (Ok screened) = found_of screened.number screened.visits
screening_of (Err refusal) = record { code = number_of refusal; found = 0; number = 0; visits = 0 }

-- The one-point test's answer where it is done: with a least margin, or without.
abbrev pub measured_of : Bool → Option LeastMargin → Placing
measured_of inside (Some least) = record { code = 0; inside = bit inside; measured = 1; face = least.face; margin = least.margin }
measured_of inside None = record { code = 0; inside = bit inside; measured = 0; face = 0; margin = pos 0 }

-- The answer of the one-point test.
abbrev pub placing_of : Result Placed Refusal → Placing
placing_of (Ok placed) = measured_of placed.inside placed.least
placing_of (Err refusal) = record { code = number_of refusal; inside = 0; measured = 0; face = 0; margin = pos 0 }

-- The answer of the explain call.
abbrev pub explaining_of : Result Reason Refusal → Explaining
explaining_of (Ok reason) = explaining reason
explaining_of (Err refusal) = record { code = number_of refusal; reason = 0; face = 0; slot = 0; margin = pos 0 }

-- The answer of the take call.
abbrev pub taking_of : Result ℕ Refusal → Taking
taking_of (Ok number) = record { code = 0; number = number }
taking_of (Err refusal) = record { code = number_of refusal; number = 0 }
