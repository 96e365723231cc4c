use Rattle.pass_parts.proofs.PartCode.{may-by}
use Rattle.pass_parts.proofs.may_tag.Goals as goal

pub returns : goal.returns
returns c = may-by c.in-Some.ensures.lookup.3.0 (c.in-Some.ensures.lookup.3.1 0) c.is_short_string.ensures c.may_tag.ensures
