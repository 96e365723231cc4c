-- `escapes::read_unit` meets its contract.
-- Assumes nothing.
use native.Mathlib.Omega.{arith}
use Rattle.escapes.proofs.EscapeCode.{unit-short, unit-wrong, unit-values}
use Rattle.escapes.proofs.read_unit.Goals.{then-text-lt-DIGITS-via-then-text-lt-DIGITS, then-text-lt-DIGITS-via-else-text-lt-DIGITS+then-text-at}
use Rattle.escapes.proofs.read_unit.Goals as goal

pub returns-then-text-lt-DIGITS : goal.returns-then-text-lt-DIGITS
returns-then-text-lt-DIGITS c =
    elim c.then-text-lt-DIGITS.branch [
      | then-text-lt-DIGITS-via-then-text-lt-DIGITS w ↦ unit-short (omega (arith, w.if-text-lt-DIGITS.true))
      | then-text-lt-DIGITS-via-else-text-lt-DIGITS+then-text-at w ↦ unit-short (omega (arith, w.if-text-at.true))
    ]

pub returns-then-max-ge16 : goal.returns-then-max-ge16
returns-then-max-ge16 c =
    unit-wrong (omega (arith, c.if-text-lt-DIGITS.false, c.if-text-at.false)) c.hex_value-a.ensures c.hex_value-b.ensures c.hex_value-c.ensures c.hex_value-d.ensures
    (omega (arith, c.if-max-ge16.true, c.max.ensures, c.max-2.ensures, c.max-3.ensures))

pub returns : goal.returns
returns c =
    unit-values (omega (arith, c.if-text-lt-DIGITS.false, c.if-text-at.false)) c.hex_value-a.ensures c.hex_value-b.ensures c.hex_value-c.ensures c.hex_value-d.ensures
    (omega (arith, c.if-max-ge16.false, c.max.ensures, c.max-2.ensures, c.max-3.ensures))
