-- `literal_body::put_two` meets its contract.
-- Assumes nothing.
use Rattle.literal_body.proofs.LiteralCode.{put_two}
use Rattle.literal_body.proofs.put_two.Goals as goal

pub returns : goal.returns
returns c = search put_two
