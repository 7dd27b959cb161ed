-- The first byte decides which number is read.
use Rattle.text.proofs.cursor.Cursor.read_number.Goals as goal

pub returns-then-self-eq45-clause-found : goal.returns-then-self-eq45-clause-found
returns-then-self-eq45-clause-found c = c.read_negative.ensures.found c.args.bounds.greatest

pub returns-clause-found : goal.returns-clause-found
returns-clause-found c = c.read_unsigned.ensures.found c.args.bounds.deepest
