use Rattle.leaf_integer.proofs.DigitCode.{tail_more}
use Rattle.leaf_integer.proofs.digits.ten_millions.Goals as goal

pub returns : goal.returns
returns c = search (tail_more 6, tail_more 5, tail_more 4)
