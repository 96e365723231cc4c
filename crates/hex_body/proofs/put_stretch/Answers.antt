-- `hex_body::put_stretch` meets its contract.
-- Assumes nothing.
use Rattle.hex_body.proofs.HexCode.{stretch_on}
use Rattle.hex_body.proofs.put_stretch.Goals as goal

pub returns : goal.returns
returns c = search stretch_on
