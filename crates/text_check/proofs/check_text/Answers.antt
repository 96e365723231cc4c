-- `text_check::check_text` meets its contract.
-- Assumes nothing.
use Rattle.text_check.proofs.Texts.{text_ways}
use Rattle.text_check.proofs.check_text.Goals as goal

pub returns-then-text-gt-MOST_BYTES : goal.returns-then-text-gt-MOST_BYTES
returns-then-text-gt-MOST_BYTES c = search text_ways

pub returns-then-bad-text : goal.returns-then-bad-text
returns-then-bad-text c = search text_ways

pub returns : goal.returns
returns c = search text_ways
