use Rattle.leaf_string.proofs.StringCode.{text-told}
use Rattle.leaf_string.proofs.short_text.Goals as goal

pub returns : goal.returns
returns c = search text-told
