-- `scanning::scan::in_comment` meets its contract.
-- Assumes nothing.
use borrow.Author.Tests.{le-leb}
use Rattle.scanning.proofs.ClassCode.{comment_ways}
use Rattle.scanning.proofs.scan.in_comment.Goals as goal

pub returns-then-b-ge32 : goal.returns-then-b-ge32
returns-then-b-ge32 c = rw (le-leb 32 c.args.b c.if-b-ge32.true) (search comment_ways)

pub returns-else-b-ge32 : goal.returns-else-b-ge32
returns-else-b-ge32 c = search comment_ways
