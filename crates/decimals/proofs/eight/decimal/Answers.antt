-- `decimals::eight::decimal` meets its contract.
-- Assumes nothing.
use Rattle.std.proofs.Common.{rules}
use Rattle.decimals.proofs.WordCode.{word_small, word-digits}
use Rattle.decimals.proofs.eight.decimal.Goals as goal

pub raised-requires : goal.raised-requires
raised-requires c = search (word_small, rules)

pub returns : goal.returns
returns c = search word-digits
