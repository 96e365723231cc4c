-- The cycle of a walk that a path guides meets its contracts.
-- Assumes nothing.
use Prim.Native.Nat.{◌+◌, ◌*◌}
use Rattle.looking.proofs.guided.+among_inside.Given as goal

abbrev pub decreases-among : goal.decreases-among
decreases-among l = 2 * l.levels + 1

abbrev pub decreases-inside : goal.decreases-inside
decreases-inside l = 2 * l.levels
