use Rattle.pass_parts.proofs.PartCode.{number-room, tag-laid}
use Rattle.pass_parts.proofs.tag_opening.Goals as goal

pub put-requires : goal.put-requires
put-requires c = search number-room

pub returns : goal.returns
returns c = search tag-laid
