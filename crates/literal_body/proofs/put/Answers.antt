-- `literal_body::put` meets its contract.
-- Assumes nothing.
use Rattle.literal_body.proofs.LiteralCode.{put-past, put_one}
use Rattle.literal_body.proofs.put.Goals as goal

pub returns-then-out-p : goal.returns-then-out-p
returns-then-out-p c = search put-past

pub returns : goal.returns
returns c = search put_one
