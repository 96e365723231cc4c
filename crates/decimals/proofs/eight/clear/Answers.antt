-- `decimals::eight::clear` meets its contract.
-- Assumes nothing.
use Rattle.decimals.proofs.WordCode.{clear_is}
use Rattle.decimals.proofs.eight.clear.Goals as goal

pub returns : goal.returns
returns c = search clear_is
