-- `leaf_reader::by_token::simple_at` meets its contract.
-- Assumes nothing.
use mathlib.Core.Path.{sym, ◌∙◌}
use borrow.Author.Tests.{lt-leb, eqb-true}
use Rattle.cbor.proofs.Tests.{clash}
use Rattle.leaf_reader.proofs.TokenCode.{simple-yes}
use Rattle.leaf_reader.proofs.by_token.simple_at.Goals as goal
use Rattle.leaf_reader.proofs.by_token.simple_at.Goals.{then-next_is, else-next_is}
use Rattle.leaf_reader.proofs.by_token.simple_at.Goals.{then-four-eq-SIMP, else-four-eq-SIMP}
use Rattle.leaf_reader.proofs.by_token.simple_at.Goals.{then-text-at-ge7, else-text-at-ge7}

pub returns-then-next_is-2 : goal.returns-then-next_is-2
returns-then-next_is-2 c =
    elim c.if-next_is.branch [
      | else-next_is w ↦ absurd (clash (sym c.if-next_is-2.true ∙ w.value-is ∙ w.if-next_is.false))
      | then-next_is w ↦
          elim c.if-four-eq-SIMP.branch [
            | else-four-eq-SIMP v ↦ absurd (clash (sym w.if-next_is.true ∙ v.value-is ∙ v.if-four-eq-SIMP.false))
            | then-four-eq-SIMP v ↦
                elim c.if-text-at-ge7.branch [
                  | else-text-at-ge7 u ↦ absurd (clash (sym v.if-four-eq-SIMP.true ∙ u.value-is ∙ lt-leb 7 _ u.if-text-at-ge7.false))
                  | then-text-at-ge7 u ↦
                      simple-yes u.if-text-at-ge7.true u.four.ensures (eqb-true _ _ (sym u.value-is ∙ v.if-four-eq-SIMP.true)) v.next_is.ensures (sym v.value-is ∙ w.if-next_is.true) w.next_is-then-next_is.ensures (sym w.value-is ∙ c.if-next_is-2.true)
                      c.next_is-then-next_is-2.ensures
                ]
          ]
    ]
