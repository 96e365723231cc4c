use Rattle.pass_parts.proofs.PartCode.{opening_laid}
use Rattle.pass_parts.proofs.opening.Goals as goal

pub returns : goal.returns
returns c = search opening_laid
