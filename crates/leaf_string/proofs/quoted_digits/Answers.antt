use Rattle.leaf_string.proofs.StringCode.{quoted-laid}
use Rattle.leaf_string.proofs.quoted_digits.Goals as goal

pub returns : goal.returns
returns c = search quoted-laid
