use Rattle.leaf_integer.proofs.DigitCode.{units_laid}
use Rattle.leaf_integer.proofs.digits.units.Goals as goal

pub returns : goal.returns
returns c = search units_laid
