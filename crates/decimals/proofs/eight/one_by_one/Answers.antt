-- `decimals::eight::one_by_one` meets its contract.
-- Assumes nothing.
use Rattle.decimals.proofs.WordCode.{one_by_one}
use Rattle.decimals.proofs.eight.one_by_one.Goals as goal

pub returns : goal.returns
returns c = search one_by_one
