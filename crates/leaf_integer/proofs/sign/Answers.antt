use Rattle.leaf_integer.proofs.IntegerCode.{sign_laid}
use Rattle.leaf_integer.proofs.sign.Goals as goal

pub returns-clause-laid : goal.returns-clause-laid
returns-clause-laid c = search sign_laid
