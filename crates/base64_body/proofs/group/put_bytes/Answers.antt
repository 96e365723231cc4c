-- `base64_body::group::put_bytes` meets its contract.
-- Assumes nothing.
use Rattle.base64_body.proofs.GroupCode.{bytes_ways}
use Rattle.base64_body.proofs.group.put_bytes.Goals as goal

pub returns-then-n-eq0 : goal.returns-then-n-eq0
returns-then-n-eq0 c = search bytes_ways

pub returns-then-n-eq1 : goal.returns-then-n-eq1
returns-then-n-eq1 c = search bytes_ways

pub returns-then-n-eq2 : goal.returns-then-n-eq2
returns-then-n-eq2 c = search bytes_ways

pub returns : goal.returns
returns c = search bytes_ways
