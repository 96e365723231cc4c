-- `closing::sign` meets its contract.
-- Assumes nothing.
use Rattle.closing.proofs.Closers.{sign_is}
use Rattle.closing.proofs.sign.Goals as goal

pub returns : goal.returns
returns c = search sign_is
