-- `string_reader::chunks` meets its contract.
-- Assumes nothing.
use Rattle.std.proofs.lemmas.Result.{err_from_is_err_and}
use Rattle.encoding.proofs.Telling.{made_inside}
use Rattle.string_reader.proofs.ReadStrings.{chunks_start, chunks-place, chunks-strings, chunks_ways, chunks-same, chunks-sum, chunks-fits, chunks_less, chunks_comma}
use Rattle.string_reader.proofs.chunks.Goals as goal

pub loop-m-init : goal.loop-m-init
loop-m-init c = search chunks_start

pub overflow_add-pos : goal.overflow_add-pos
overflow_add-pos c = search chunks-place

pub chunk-requires : goal.chunk-requires
chunk-requires c = search chunks-strings

pub returns-in_err-m : goal.returns-in_err-m
returns-in_err-m c = let w = c.in_err-m.was {u = tt} in let p = err_from_is_err_and c.from_residual.result c.from_residual.ensures.1 in rw (p.1, p.2) (search chunks_ways)

pub overflow_add-n : goal.overflow_add-n
overflow_add-n c = let w = c.in_ok-m.was {u = tt} in search chunks-sum

pub overflow_add-size : goal.overflow_add-size
overflow_add-size c = let w = c.in_ok-m.was {u = tt} in search chunks-fits

pub next_token-t-requires : goal.next_token-t-requires
next_token-t-requires c = let w = c.in_ok-m.was {u = tt} in search made_inside

pub shape_of-buf-then-found-eq-CLOSE_PAREN : goal.shape_of-buf-then-found-eq-CLOSE_PAREN
shape_of-buf-then-found-eq-CLOSE_PAREN c = let w = c.in_ok-m.was {u = tt} in search chunks-same

pub returns-then-found-eq-CLOSE_PAREN : goal.returns-then-found-eq-CLOSE_PAREN
returns-then-found-eq-CLOSE_PAREN c = let w = c.in_ok-m.was {u = tt} in search chunks_ways

pub shape_of-buf-then-found-ne-COMMA : goal.shape_of-buf-then-found-ne-COMMA
shape_of-buf-then-found-ne-COMMA c = let w = c.in_ok-m.was {u = tt} in search chunks-same

pub returns-then-found-ne-COMMA : goal.returns-then-found-ne-COMMA
returns-then-found-ne-COMMA c = let w = c.in_ok-m.was {u = tt} in search chunks_ways

pub loop-m-smaller : goal.loop-m-smaller
loop-m-smaller c = let w = c.in_ok-m.was {u = tt} in search chunks_less

pub loop-m-preserved : goal.loop-m-preserved
loop-m-preserved c = let w = c.in_ok-m.was {u = tt} in search chunks_comma
