-- `leaf_reader::literal::base64_at` meets its contract.
-- Assumes nothing.
use mathlib.Core.Path.{sym, ◌∙◌}
use Rattle.cbor.proofs.Tests.{clash}
use Rattle.leaf_reader.proofs.LiteralCode.{there_base64}
use Rattle.leaf_reader.proofs.literal.base64_at.Goals as goal
use Rattle.leaf_reader.proofs.literal.base64_at.Goals.{then-next_is, else-next_is}
use Rattle.leaf_reader.proofs.literal.base64_at.Goals.{then-next_is-2, else-next_is-2}

pub returns-then-next_is-3 : goal.returns-then-next_is-3
returns-then-next_is-3 c =
    elim c.if-next_is-2.branch [
      | else-next_is-2 w ↦ absurd (clash (sym c.if-next_is-3.true ∙ w.value-is ∙ w.if-next_is-2.false))
      | then-next_is-2 w ↦
          elim c.if-next_is.branch [
            | else-next_is v ↦ absurd (clash (sym w.if-next_is-2.true ∙ v.value-is ∙ v.if-next_is.false))
            | then-next_is v ↦
                there_base64 c.next_is.ensures v.if-next_is.true v.next_is-then-next_is.ensures (sym v.value-is ∙ w.if-next_is-2.true) w.next_is-then-next_is-2.ensures (sym w.value-is ∙ c.if-next_is-3.true) c.next_is-then-next_is-3.ensures
          ]
    ]
