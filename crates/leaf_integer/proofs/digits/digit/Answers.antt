use Rattle.leaf_integer.proofs.DigitCode.{digit_ways}
use Rattle.leaf_integer.proofs.digits.digit.Goals as goal

pub returns-then-q-eq0-clause-laid : goal.returns-then-q-eq0-clause-laid
returns-then-q-eq0-clause-laid c = search digit_ways

pub returns-clause-laid : goal.returns-clause-laid
returns-clause-laid c = search digit_ways
