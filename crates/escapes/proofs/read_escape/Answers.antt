-- `escapes::read_escape` meets its contract.
-- Assumes nothing.
use mathlib.Core.Path.{sym, ◌∙◌}
use Rattle.escapes.proofs.EscapeCode.{escape-past, escape_unicode, escape-wrong, escape-letter}
use Rattle.escapes.proofs.read_escape.Goals as goal

pub returns-in_err-b : goal.returns-in_err-b
returns-in_err-b c = rw c.from_residual.ensures (escape-past c.in_err-b.ensures.lookup.3)

pub returns-then-b-eq117 : goal.returns-then-b-eq117
returns-then-b-eq117 c = let x = c.in_ok-b.ensures.lookup.3 in escape_unicode _ _ x.0 (sym (x.1 0) ∙ c.if-b-eq117.true) c.read_unicode.ensures

pub returns-in_err-escaped : goal.returns-in_err-escaped
returns-in_err-escaped c =
    let x = c.in_ok-b.ensures.lookup.3 in
    rw c.from_residual-in_err-escaped.ensures (escape-wrong _ _ x.0 (λ e. c.if-b-eq117.false (x.1 0 ∙ e)) (rw (x.1 0) at c.in_err-escaped.ensures))

pub returns : goal.returns
returns c = let x = c.in_ok-b.ensures.lookup.3 in escape-letter _ _ x.0 (λ e. c.if-b-eq117.false (x.1 0 ∙ e)) (rw (x.1 0) at c.in_ok-escaped.ensures)
