-- `text_output::put` meets its contract.
-- Assumes nothing.
use Rattle.text_output.proofs.PrintLeaves.{put_in, put-past}
use Rattle.text_output.proofs.put.Goals as goal

pub returns-then-pos-out : goal.returns-then-pos-out
returns-then-pos-out c = search put_in

pub returns : goal.returns
returns c = search put-past
