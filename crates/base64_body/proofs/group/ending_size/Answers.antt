-- `base64_body::group::ending_size` meets its contract.
-- Assumes nothing.
use Rattle.base64_body.proofs.BlankCode.{ending_ways}
use Rattle.base64_body.proofs.group.ending_size.Goals as goal

pub returns-then-past_blanks-stop : goal.returns-then-past_blanks-stop
returns-then-past_blanks-stop c = search ending_ways

pub returns-then-n-lt-WRONG : goal.returns-then-n-lt-WRONG
returns-then-n-lt-WRONG c = search ending_ways

pub returns-else-n-lt-WRONG : goal.returns-else-n-lt-WRONG
returns-else-n-lt-WRONG c = search ending_ways
