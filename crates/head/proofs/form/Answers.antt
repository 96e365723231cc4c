-- `head::form` meets its contract.
-- Assumes nothing.
use Rattle.head.proofs.HeadCode.{form_ways}
use Rattle.head.proofs.form.Goals as goal

pub returns-then-info-le-IN_ONE_BYTE : goal.returns-then-info-le-IN_ONE_BYTE
returns-then-info-le-IN_ONE_BYTE c = search form_ways

pub returns-then-major-eq-SIMPLE_VALUE : goal.returns-then-major-eq-SIMPLE_VALUE
returns-then-major-eq-SIMPLE_VALUE c = search form_ways

pub returns-then-info-le-IN_EIGHT_BYTES : goal.returns-then-info-le-IN_EIGHT_BYTES
returns-then-info-le-IN_EIGHT_BYTES c = search form_ways

pub returns-then-info-le-LAST_RESERVED : goal.returns-then-info-le-LAST_RESERVED
returns-then-info-le-LAST_RESERVED c = search form_ways

pub returns-then-major-le-NEGATIVE_INTEGER : goal.returns-then-major-le-NEGATIVE_INTEGER
returns-then-major-le-NEGATIVE_INTEGER c = search form_ways

pub returns-then-major-eq-TAG : goal.returns-then-major-eq-TAG
returns-then-major-eq-TAG c = search form_ways

pub returns-else-major-eq-TAG : goal.returns-else-major-eq-TAG
returns-else-major-eq-TAG c = search form_ways
