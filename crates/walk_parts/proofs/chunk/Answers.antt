-- `walk_parts::chunk` meets its contract.
-- Assumes nothing.
use Rattle.std.proofs.lemmas.Result.{err_from_is_err_and}
use Rattle.walk_parts.proofs.StringCode.{chunk_room, chunk_ways}
use Rattle.walk_parts.proofs.chunk.Goals as goal

pub returns-then-bytes-eq0 : goal.returns-then-bytes-eq0
returns-then-bytes-eq0 c = search chunk_ways

pub returns-then-bytes-string_major : goal.returns-then-bytes-string_major
returns-then-bytes-string_major c = search chunk_ways

pub returns-then-h-eq-INDEFINITE_LENGTH : goal.returns-then-h-eq-INDEFINITE_LENGTH
returns-then-h-eq-INDEFINITE_LENGTH c = let w = c.in_ok-h.was {u = tt} in search chunk_ways

pub content-requires : goal.content-requires
content-requires c = let w = c.in_ok-h.was {u = tt} in search chunk_room

pub returns-in_err-h : goal.returns-in_err-h
returns-in_err-h c = let w = c.in_err-h.was {u = tt} in let p = err_from_is_err_and c.from_residual.result c.from_residual.ensures.1 in rw (p.1, p.2) (search chunk_ways)

pub returns : goal.returns
returns c = let w = c.in_ok-h.was {u = tt} in search chunk_ways
