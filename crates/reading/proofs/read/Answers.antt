-- `reading::read` meets its contract.
-- Assumes nothing.
use Rattle.std.proofs.lemmas.Result.{err_from_is_err_and}
use Rattle.reading.proofs.Encoding.{read_ways}
use Rattle.reading.proofs.read.Goals as goal

pub returns-then-text-le-TINY : goal.returns-then-text-le-TINY
returns-then-text-le-TINY c = let w = c.in_ok-check_text.was {u = tt} in search read_ways

pub returns-then-text-le-SMALL : goal.returns-then-text-le-SMALL
returns-then-text-le-SMALL c = let w = c.in_ok-check_text.was {u = tt} in search read_ways

pub encode_large-requires : goal.encode_large-requires
encode_large-requires c = let w = c.in_ok-check_text.was {u = tt} in search read_ways

pub returns-in_err-check_text : goal.returns-in_err-check_text
returns-in_err-check_text c = let w = c.in_err-check_text.was {u = tt} in let p = err_from_is_err_and c.from_residual.result c.from_residual.ensures.1 in rw (p.1, p.2) (search read_ways)

pub returns : goal.returns
returns c = let w = c.in_ok-check_text.was {u = tt} in search read_ways
