-- `reader::whole` meets its contract.
-- Assumes nothing.
use Rattle.string_reader.proofs.ReadStrings.{literal_light}
use Rattle.reader.proofs.ReadItems.{flat_ways, flat_open, room-inside}
use Rattle.reader.proofs.whole.Goals as goal

pub next_token-t-requires : goal.next_token-t-requires
next_token-t-requires c = search room-inside

pub returns-then-kind-eq-NO_TOKEN : goal.returns-then-kind-eq-NO_TOKEN
returns-then-kind-eq-NO_TOKEN c = search flat_ways

pub returns-then-kind-le-SIMPLE : goal.returns-then-kind-le-SIMPLE
returns-then-kind-le-SIMPLE c = search flat_ways

pub literal-requires : goal.literal-requires
literal-requires c = search literal_light

pub returns-then-kind-le-BYTES : goal.returns-then-kind-le-BYTES
returns-then-kind-le-BYTES c = search flat_ways

pub chunked-requires : goal.chunked-requires
chunked-requires c = search flat_open

pub returns-then-kind-eq-OPEN_PAREN : goal.returns-then-kind-eq-OPEN_PAREN
returns-then-kind-eq-OPEN_PAREN c = search flat_ways

pub returns : goal.returns
returns c = search flat_ways
