-- `decimals::eight::eight` meets its contract.
-- Assumes nothing.
use Rattle.decimals.proofs.WordCode.{eight_is}
use Rattle.decimals.proofs.eight.eight.Goals as goal

pub returns : goal.returns
returns c = search (eight_is, c.shared_slice_known-9-1.given)
