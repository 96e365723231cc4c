-- `base64_body::group::letters` meets its contract.
-- Assumes nothing.
use Rattle.base64_body.proofs.BlankCode.{letters_ways}
use Rattle.base64_body.proofs.group.letters.Goals as goal

pub returns-then-stop-i : goal.returns-then-stop-i
returns-then-stop-i c = search letters_ways

pub returns-then-stop-j : goal.returns-then-stop-j
returns-then-stop-j c = search letters_ways

pub returns-then-stop-k : goal.returns-then-stop-k
returns-then-stop-k c = search letters_ways

pub returns-then-stop-l : goal.returns-then-stop-l
returns-then-stop-l c = search letters_ways

pub returns : goal.returns
returns c = search letters_ways
