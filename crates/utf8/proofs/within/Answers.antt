-- `utf8::within` meets its contract.
-- Assumes nothing.
use mathlib.Core.Path.{sym, ◌∙◌}
use Prim.Native.Nat.{◌<◌}
use native.Mathlib.Omega.{arith}
use lib.ListN.{length}
use borrow.Author.Tests.{ltb-true, leb-true, leb-false}
use Rattle.cbor.proofs.Sequences.{within_end, within-below, within-above}
use Rattle.utf8.proofs.within.Goals as goal
use Rattle.utf8.proofs.within.Goals.{then-at-bytes, else-at-bytes}

pub returns-then-low-bytes : goal.returns-then-low-bytes
returns-then-low-bytes c =
    elim c.if-at-bytes.branch [
      | then-at-bytes w ↦ within-above _ _ _ _ w.if-at-bytes.true (leb-true _ _ (sym w.value-is ∙ c.if-low-bytes.true))
      | else-at-bytes w ↦ let h : c.args.at < length c.args.bytes.now = ltb-true _ _ (sym w.value-is ∙ c.if-low-bytes.true) in absurd (omega arith)
    ]

pub returns-else-low-bytes : goal.returns-else-low-bytes
returns-else-low-bytes c =
    rw c.if-low-bytes.false (elim c.if-at-bytes.branch [
      | then-at-bytes w ↦ within-below _ _ _ _ w.if-at-bytes.true (leb-false _ _ (sym w.value-is ∙ c.if-low-bytes.false))
      | else-at-bytes w ↦ within_end _ _ _ _ w.if-at-bytes.false
    ])
