use Rattle.pass_parts.proofs.PartCode.{separator_ways}
use Rattle.pass_parts.proofs.separator.Goals as goal

pub returns-then-first-clause-laid : goal.returns-then-first-clause-laid
returns-then-first-clause-laid c = search separator_ways

pub returns-else-first-clause-laid : goal.returns-else-first-clause-laid
returns-else-first-clause-laid c = search separator_ways
