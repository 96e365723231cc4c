-- `c_reply::reply` meets its contract.
-- Assumes nothing.
use Rattle.c_reply.proofs.Replying.{reply_ways}
use Rattle.c_reply.proofs.reply.Goals as goal

pub returns-in-Ok : goal.returns-in-Ok
returns-in-Ok c = search reply_ways

pub returns-in-Err : goal.returns-in-Err
returns-in-Err c = search reply_ways
