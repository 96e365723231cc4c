-- `tokens::cut::cut` meets its contract.
-- Assumes nothing.
use Rattle.tokens.proofs.CutCode.{insides, cut_ways, cut-none}
use Rattle.tokens.proofs.cut.cut.Goals as goal

pub number-requires : goal.number-requires
number-requires c = search insides

pub word-requires : goal.word-requires
word-requires c = search insides

pub after_minus-requires : goal.after_minus-requires
after_minus-requires c = search insides

pub dots-requires : goal.dots-requires
dots-requires c = search insides

pub quoted-requires : goal.quoted-requires
quoted-requires c = search insides

pub quoted-requires-in-8 : goal.quoted-requires-in-8
quoted-requires-in-8 c = search insides

pub paired-requires : goal.paired-requires
paired-requires c = search insides

pub opening-requires : goal.opening-requires
opening-requires c = search insides

pub opening-requires-in-17 : goal.opening-requires-in-17
opening-requires-in-17 c = search insides

pub paired-requires-in-19 : goal.paired-requires-in-19
paired-requires-in-19 c = search insides

pub closing-requires : goal.closing-requires
closing-requires c = search insides

pub returns-in-2 : goal.returns-in-2
returns-in-2 c = search cut_ways

pub returns-in-3 : goal.returns-in-3
returns-in-3 c = search cut_ways

pub returns-in-5 : goal.returns-in-5
returns-in-5 c = search cut_ways

pub returns-in-6 : goal.returns-in-6
returns-in-6 c = search cut_ways

pub returns-in-7 : goal.returns-in-7
returns-in-7 c = search cut_ways

pub returns-in-8 : goal.returns-in-8
returns-in-8 c = search cut_ways

pub returns-in-11 : goal.returns-in-11
returns-in-11 c = search cut_ways

pub returns-in-12 : goal.returns-in-12
returns-in-12 c = search cut_ways

pub returns-in-13 : goal.returns-in-13
returns-in-13 c = search cut_ways

pub returns-in-14 : goal.returns-in-14
returns-in-14 c = search cut_ways

pub returns-in-15 : goal.returns-in-15
returns-in-15 c = search cut_ways

pub returns-in-16 : goal.returns-in-16
returns-in-16 c = search cut_ways

pub returns-in-17 : goal.returns-in-17
returns-in-17 c = search cut_ways

pub returns-in-18 : goal.returns-in-18
returns-in-18 c = search cut_ways

pub returns-in-19 : goal.returns-in-19
returns-in-19 c = search cut_ways

pub returns-in-20 : goal.returns-in-20
returns-in-20 c = search cut_ways

pub returns-in-21 : goal.returns-in-21
returns-in-21 c = search cut_ways

pub returns-in-22 : goal.returns-in-22
returns-in-22 c = search cut_ways

pub returns-in_default : goal.returns-in_default
returns-in_default c = search cut-none
