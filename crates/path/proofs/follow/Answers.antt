-- `path::follow` meets its contract.
-- Assumes nothing.
use Rattle.std.proofs.lemmas.Result.{err_from_is_err_and}
use Rattle.path.proofs.Stepping.{first-made, first-lost, next-made, next-lost, trace-end, trace_ways}
use Rattle.path.proofs.follow.Goals as goal

pub returns-then-path-eq0 : goal.returns-then-path-eq0
returns-then-path-eq0 c = search trace_ways

pub returns-in_err-here : goal.returns-in_err-here
returns-in_err-here c =
    let w = c.in_err-here.was {u = tt} in
    let v = c.ok_or.ensures.value in
    let p = err_from_is_err_and c.from_residual.result c.from_residual.ensures.1 in
    rw (p.1, p.2) (search first-lost)

pub loop-i-init : goal.loop-i-init
loop-i-init c =
    let w = c.in_ok-here.was {u = tt} in
    let v = c.ok_or.ensures.value in
    search first-made

pub loop-i-preserved : goal.loop-i-preserved
loop-i-preserved c =
    let w = c.in_ok-here-2.was {u = tt} in
    let v = c.ok_or-in-loop-i.ensures.value in
    search next-made

pub returns-in_err-here-2 : goal.returns-in_err-here-2
returns-in_err-here-2 c =
    let w = c.in_err-here-2.was {u = tt} in
    let v = c.ok_or-in-loop-i.ensures.value in
    let p = err_from_is_err_and c.from_residual-in_err-here-2.result c.from_residual-in_err-here-2.ensures.1 in
    rw (p.1, p.2) (search next-lost)

pub returns : goal.returns
returns c = search trace-end
