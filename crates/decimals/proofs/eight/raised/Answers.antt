-- `decimals::eight::raised` meets its contract.
-- Assumes nothing.
use Rattle.decimals.proofs.WordCode.{raised_is}
use Rattle.decimals.proofs.eight.raised.Goals as goal

pub returns : goal.returns
returns c = search raised_is
