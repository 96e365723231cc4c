-- `c_place_reply::check_reply` meets its contract.
-- Assumes nothing.
use Rattle.c_place_reply.proofs.PlaceReplying.{check_ways}
use Rattle.c_place_reply.proofs.check_reply.Goals as goal

pub returns-in-Err : goal.returns-in-Err
returns-in-Err c = search check_ways

pub returns-in-Ok : goal.returns-in-Ok
returns-in-Ok c = search check_ways
