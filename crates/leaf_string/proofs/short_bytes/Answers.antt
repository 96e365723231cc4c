use Rattle.leaf_string.proofs.StringCode.{bytes-told}
use Rattle.leaf_string.proofs.short_bytes.Goals as goal

pub returns : goal.returns
returns c = search bytes-told
