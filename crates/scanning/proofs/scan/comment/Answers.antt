-- `scanning::scan::comment` meets its contract.
-- Assumes nothing.
use Rattle.scanning.proofs.ScanCode.{comment_on, comment_ways}
use Rattle.scanning.proofs.scan.comment.Goals as goal

pub returns-then-text-stop : goal.returns-then-text-stop
returns-then-text-stop c = search comment_ways

pub returns-then-b-end : goal.returns-then-b-end
returns-then-b-end c = search comment_ways

pub returns-then-not-in_comment : goal.returns-then-not-in_comment
returns-then-not-in_comment c = search comment_ways

pub loop-at-preserved : goal.loop-at-preserved
loop-at-preserved c = search comment_on

pub returns : goal.returns
returns c = search comment_ways
