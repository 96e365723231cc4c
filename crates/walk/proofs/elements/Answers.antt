-- `walk::elements` meets its contract.
-- Assumes nothing.
use Rattle.quick_walk.proofs.QuickWays.{quick_told}
use Rattle.walk.proofs.elements.Goals as goal

pub returns : goal.returns
returns g c = rw (← c.into_mode-mode.ensures) (search quick_told)
