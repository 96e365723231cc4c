use Rattle.leaf_integer.proofs.DigitCode.{tail_more}
use Rattle.leaf_integer.proofs.digits.ten_thousands.Goals as goal

pub returns : goal.returns
returns c = search (tail_more 3, tail_more 2)
