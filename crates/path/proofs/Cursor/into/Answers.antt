-- `path::Cursor::into` meets its contract.
-- Assumes nothing.
use Rattle.path.proofs.Stepping.{into-room, value_room, into_ways}
use Rattle.path.proofs.Cursor.into.Goals as goal

pub nth-requires : goal.nth-requires
nth-requires c = search into-room

pub returns-then-h-eq-ARRAY : goal.returns-then-h-eq-ARRAY
returns-then-h-eq-ARRAY c = search into_ways

pub returns-then-h-ne-MAP : goal.returns-then-h-ne-MAP
returns-then-h-ne-MAP c = search into_ways

pub nth-requires-2 : goal.nth-requires-2
nth-requires-2 c = search into-room

pub past-requires : goal.past-requires
past-requires c = let w = c.in_ok-key.was {u = tt} in search value_room

pub returns-in_default : goal.returns-in_default
returns-in_default c = search into_ways

pub returns-in_err-key : goal.returns-in_err-key
returns-in_err-key c = let w = c.in_err-key.was {u = tt} in rw c.from_residual.ensures (search into_ways)

pub returns : goal.returns
returns c = let w = c.in_ok-key.was {u = tt} in search into_ways
