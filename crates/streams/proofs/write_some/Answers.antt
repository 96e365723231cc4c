-- `streams::write_some` meets its contract.
-- Assumes nothing.
use Rattle.streams.proofs.Moves.{moved}
use Rattle.streams.proofs.write_some.Goals as goal

pub returns-clause-bound : goal.returns-clause-bound
returns-clause-bound g c = moved _ c.write.result _ c.came_to.ensures.moved c.came_to.ensures.failed _ _ c.write.ensures.bound

pub returns-clause-bytes : goal.returns-clause-bytes
returns-clause-bytes g c = moved _ c.write.result _ c.came_to.ensures.moved c.came_to.ensures.failed _ _ c.write.ensures.bytes
