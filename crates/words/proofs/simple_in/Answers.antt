-- `words::simple_in` meets its contract.
-- Assumes nothing.
use Rattle.words.proofs.WordCode.{simple_ins, enclosed-part}
use Rattle.words.proofs.simple_in.Goals as goal

pub plain_decimal-requires : goal.plain_decimal-requires
plain_decimal-requires c = search enclosed-part

pub returns-then-is_simple : goal.returns-then-is_simple
returns-then-is_simple c = search simple_ins

pub returns-then-plain_decimal : goal.returns-then-plain_decimal
returns-then-plain_decimal c = search simple_ins

pub returns : goal.returns
returns c = search simple_ins
