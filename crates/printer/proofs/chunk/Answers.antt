-- `printer::chunk` meets its contract.
-- Assumes nothing.
use Rattle.printer.proofs.PrintWays.{chunk_ways}
use Rattle.printer.proofs.PrintCycle.{headed_within}
use Rattle.printer.proofs.chunk.Goals as goal

pub string-requires : goal.string-requires
string-requires c = search headed_within

pub returns-in-Err : goal.returns-in-Err
returns-in-Err c = search chunk_ways

pub returns-in-Ok : goal.returns-in-Ok
returns-in-Ok c = search chunk_ways
