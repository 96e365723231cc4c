use Rattle.leaf_integer.proofs.DigitCode.{tail_more}
use Rattle.leaf_integer.proofs.digits.hundreds.Goals as goal

pub returns : goal.returns
returns c = search (tail_more 1)
