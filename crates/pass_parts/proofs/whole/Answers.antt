use Rattle.pass_parts.proofs.PartCode.{whole_ways}
use Rattle.pass_parts.proofs.whole.Goals as goal

pub returns-then-out-p : goal.returns-then-out-p
returns-then-out-p c = search whole_ways

pub returns : goal.returns
returns c = search whole_ways
