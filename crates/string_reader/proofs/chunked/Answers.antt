-- `string_reader::chunked` meets its contract.
-- Assumes nothing.
use Rattle.std.proofs.lemmas.Result.{err_from_is_err_and}
use Rattle.string_reader.proofs.ReadStrings.{opened-fits, chunked-strings, major-fits, major_open, chunked_light, chunked_ways}
use Rattle.string_reader.proofs.chunked.Goals as goal

pub returns-then-kind-le-SIMPLE : goal.returns-then-kind-le-SIMPLE
returns-then-kind-le-SIMPLE c = search chunked_ways

pub returns-then-kind-gt-BYTES : goal.returns-then-kind-gt-BYTES
returns-then-kind-gt-BYTES c = search chunked_ways

pub overflow_add-pos : goal.overflow_add-pos
overflow_add-pos c = search opened-fits

pub chunks-requires : goal.chunks-requires
chunks-requires c = search chunked-strings

pub overflow_mul-first : goal.overflow_mul-first
overflow_mul-first c = let w = c.in_ok-m.was {u = tt} in search major-fits

pub overflow_add-first : goal.overflow_add-first
overflow_add-first c = let w = c.in_ok-m.was {u = tt} in search major_open

pub endless-requires : goal.endless-requires
endless-requires c = let w = c.in_ok-m.was {u = tt} in search chunked_light

pub returns-in_err-m : goal.returns-in_err-m
returns-in_err-m c = let w = c.in_err-m.was {u = tt} in let p = err_from_is_err_and c.from_residual.result c.from_residual.ensures.1 in rw (p.1, p.2) (search chunked_ways)

pub returns : goal.returns
returns c = let w = c.in_ok-m.was {u = tt} in search chunked_ways
