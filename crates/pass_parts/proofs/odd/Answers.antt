use Rattle.pass_parts.proofs.PartCode.{is-item}
use Rattle.pass_parts.proofs.odd.Goals as goal

pub whole-requires-clause-item : goal.whole-requires-clause-item
whole-requires-clause-item c = search is-item
