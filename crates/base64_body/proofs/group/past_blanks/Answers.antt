-- `base64_body::group::past_blanks` meets its contract.
-- Assumes nothing.
use Rattle.base64_body.proofs.BlankCode.{blanks_on}
use Rattle.base64_body.proofs.group.past_blanks.Goals as goal

pub loop-at-preserved : goal.loop-at-preserved
loop-at-preserved c = search blanks_on
