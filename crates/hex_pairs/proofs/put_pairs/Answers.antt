-- `hex_pairs::put_pairs` meets its contract.
-- Assumes nothing.
use Rattle.hex_pairs.proofs.PairsCode.{blocks_digits, rest-digits, pairs-put}
use Rattle.hex_pairs.proofs.put_pairs.Goals as goal

pub put_blocks-p-requires : goal.put_blocks-p-requires
put_blocks-p-requires c = search blocks_digits

pub put_singly-requires : goal.put_singly-requires
put_singly-requires c = search rest-digits

pub returns : goal.returns
returns c = search pairs-put
