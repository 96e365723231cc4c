-- `hex_body::put_front` meets its contract.
-- Assumes nothing.
use Rattle.literal_body.proofs.ReadingCode.{progress_start}
use Rattle.hex_body.proofs.HexCode.{front-many}
use Rattle.hex_body.proofs.put_front.Goals as goal

pub returns-then-few : goal.returns-then-few
returns-then-few c = search progress_start

pub returns : goal.returns
returns c = search front-many
