use Rattle.leaf_kind.proofs.KindCode.{kind_as}
use Rattle.leaf_text.proofs.WordCode.{false_told, true_told, null_told}
use Rattle.leaf_text.proofs.leaf.Goals as goal

pub small-requires : goal.small-requires
small-requires c = search kind_as

pub one-requires : goal.one-requires
one-requires c = search kind_as

pub two-requires : goal.two-requires
two-requires c = search kind_as

pub four-requires : goal.four-requires
four-requires c = search kind_as

pub short_bytes-requires : goal.short_bytes-requires
short_bytes-requires c = search kind_as

pub short_text-requires : goal.short_text-requires
short_text-requires c = search kind_as

pub returns-in-False : goal.returns-in-False
returns-in-False c = search (false_told, kind_as)

pub returns-in-True : goal.returns-in-True
returns-in-True c = search (true_told, kind_as)

pub returns-in-Null : goal.returns-in-Null
returns-in-Null c = search (null_told, kind_as)
