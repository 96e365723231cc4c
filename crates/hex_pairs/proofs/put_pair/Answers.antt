-- `hex_pairs::put_pair` meets its contract.
-- Assumes nothing.
use Rattle.hex_pairs.proofs.PairsCode.{pair-high, pair-byte, pair_put}
use Rattle.hex_pairs.proofs.put_pair.Goals as goal

pub overflow_mul-digit : goal.overflow_mul-digit
overflow_mul-digit c = search pair-high

pub overflow_add-digit : goal.overflow_add-digit
overflow_add-digit c = search pair-byte

pub returns : goal.returns
returns c = search pair_put
