-- `words::other_word` meets its contract.
-- Assumes nothing.
use mathlib.Core.Path.{sym, ◌∙◌}
use Rattle.cbor.proofs.Tests.{clash}
use Rattle.words.proofs.WordCode.{other_nan, other_infinity, other_unknown}
use Rattle.words.proofs.other_word.Goals as goal
use Rattle.words.proofs.other_word.Goals.{then-is_same, else-is_same}

pub returns-then-is_same-2 : goal.returns-then-is_same-2
returns-then-is_same-2 c =
    elim c.if-is_same.branch [
      | then-is_same w ↦ other_nan _ _ c.is_same.ensures w.if-is_same.true
      | else-is_same w ↦ other_infinity _ _ c.is_same.ensures _ w.if-is_same.false w.is_same-else-is_same.ensures (sym w.value-is ∙ c.if-is_same-2.true)
    ]

pub returns-else-is_same-2 : goal.returns-else-is_same-2
returns-else-is_same-2 c =
    elim c.if-is_same.branch [
      | then-is_same w ↦ absurd (clash (sym w.if-is_same.true ∙ sym w.value-is ∙ c.if-is_same-2.false))
      | else-is_same w ↦ other_unknown _ _ c.is_same.ensures _ w.if-is_same.false w.is_same-else-is_same.ensures (sym w.value-is ∙ c.if-is_same-2.false)
    ]
