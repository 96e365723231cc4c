-- `hex_gaps::after_blank` meets its contract.
-- Assumes nothing.
use Rattle.hex_gaps.proofs.BlankCode.{after_one}
use Rattle.hex_gaps.proofs.after_blank.Goals as goal

pub returns-then-is_blank : goal.returns-then-is_blank
returns-then-is_blank c = search after_one
