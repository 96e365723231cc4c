-- `c_place_reply::part_reply` meets its contract.
-- Assumes nothing.
use Rattle.c_place_reply.proofs.PlaceReplying.{part_ways}
use Rattle.c_place_reply.proofs.part_reply.Goals as goal

pub returns-in-Err : goal.returns-in-Err
returns-in-Err c = search part_ways

pub returns-in-Ok : goal.returns-in-Ok
returns-in-Ok c = search part_ways
