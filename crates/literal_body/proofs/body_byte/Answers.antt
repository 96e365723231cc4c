-- `literal_body::body_byte` meets its contract.
-- Assumes nothing.
use native.Mathlib.Omega.{arith}
use mathlib.Core.Path.{sym, ◌∙◌}
use borrow.Author.Tests.{le-leb}
use Rattle.literal_body.proofs.LiteralCode.{body_ways, body_plain, body-blank, body-other, true_false}
use Rattle.literal_body.proofs.body_byte.Goals as goal
use Rattle.literal_body.proofs.body_byte.Goals.{then-b-ge32, else-b-ge32}

pub returns-in-39 : goal.returns-in-39
returns-in-39 c = search body_ways

pub returns-in-92 : goal.returns-in-92
returns-in-92 c = search body_ways

pub returns-in_default : goal.returns-in_default
returns-in_default c =
    elim c.if-b-ge32.branch [
      | then-b-ge32 w ↦ body_plain c.args.b (λ e. omega arith) (λ e. omega arith) (omega arith) (omega arith)
      | else-b-ge32 w ↦ body-blank c.args.b (λ e. omega arith) (λ e. omega arith) w.if-b-ge32.false w.is_blank.ensures (sym w.value-is ∙ c.if-is_blank.true)
    ]

pub returns-in_default-2 : goal.returns-in_default-2
returns-in_default-2 c =
    elim c.if-b-ge32.branch [
      | then-b-ge32 w ↦ absurd (true_false (sym (le-leb 32 c.args.b w.if-b-ge32.true) ∙ sym w.value-is ∙ c.if-is_blank.false))
      | else-b-ge32 w ↦ body-other c.args.b (λ e. omega arith) (λ e. omega arith) w.if-b-ge32.false w.is_blank.ensures (sym w.value-is ∙ c.if-is_blank.false)
    ]
