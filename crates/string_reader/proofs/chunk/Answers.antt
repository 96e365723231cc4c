-- `string_reader::chunk` meets its contract.
-- Assumes nothing.
use borrow.Author.Rules.{rules}
use Rattle.refusal.specs.RefusalKinds.{kind_number}
use Rattle.string_reader.proofs.ReadStrings.{chunk_ways, chunk_light}
use Rattle.string_reader.proofs.chunk.Goals as goal

pub next_token-t-requires : goal.next_token-t-requires
unfolding kind_number
next_token-t-requires c = search rules

pub strayed-requires : goal.strayed-requires
unfolding kind_number
strayed-requires c = search rules

pub returns-then-found-le-SIMPLE : goal.returns-then-found-le-SIMPLE
unfolding kind_number
returns-then-found-le-SIMPLE c = search chunk_ways

pub strayed-requires-then-found-gt-BYTES : goal.strayed-requires-then-found-gt-BYTES
unfolding kind_number
strayed-requires-then-found-gt-BYTES c = search rules

pub returns-then-found-gt-BYTES : goal.returns-then-found-gt-BYTES
unfolding kind_number
returns-then-found-gt-BYTES c = search chunk_ways

pub refuse-requires : goal.refuse-requires
unfolding kind_number
refuse-requires c = search rules

pub returns-then-t-eq-INDEFINITE : goal.returns-then-t-eq-INDEFINITE
unfolding kind_number
returns-then-t-eq-INDEFINITE c = search chunk_ways

pub refuse-requires-then-found-kind : goal.refuse-requires-then-found-kind
unfolding kind_number
refuse-requires-then-found-kind c = search rules

pub returns-then-found-kind : goal.returns-then-found-kind
unfolding kind_number
returns-then-found-kind c = search chunk_ways

pub string-size-requires : goal.string-size-requires
unfolding kind_number
string-size-requires c = search chunk_light

pub listed-requires : goal.listed-requires
unfolding kind_number
listed-requires c = search rules

pub shape_of-buf : goal.shape_of-buf
unfolding kind_number
shape_of-buf c = search rules

pub returns : goal.returns
unfolding kind_number
returns c = search chunk_ways
