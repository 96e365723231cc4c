-- `scanning::scan::is_word` meets its contract.
-- Assumes nothing.
use Rattle.scanning.proofs.ClassCode.{word_ways}
use Rattle.scanning.proofs.scan.is_word.Goals as goal

pub returns-in-48-to-57 : goal.returns-in-48-to-57
returns-in-48-to-57 c = search word_ways

pub returns-in-48-to-57-2 : goal.returns-in-48-to-57-2
returns-in-48-to-57-2 c = search word_ways

pub returns-in-48-to-57-3 : goal.returns-in-48-to-57-3
returns-in-48-to-57-3 c = search word_ways

pub returns-in_default : goal.returns-in_default
returns-in_default c = search word_ways

pub returns-in_default-2 : goal.returns-in_default-2
returns-in_default-2 c = search word_ways

pub returns-in_default-3 : goal.returns-in_default-3
returns-in_default-3 c = search word_ways

pub returns-in_default-4 : goal.returns-in_default-4
returns-in_default-4 c = search word_ways
