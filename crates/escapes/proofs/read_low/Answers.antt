-- `escapes::read_low` meets its contract.
-- Assumes nothing.
use Rattle.escapes.proofs.EscapeCode.{low_ways, low-none, low_below, low-above, low-pair}
use Rattle.escapes.proofs.read_low.Goals as goal
use Rattle.escapes.proofs.read_low.Goals.{then-not-next_is-via-then-not-next_is, then-not-next_is-via-else-not-next_is+then-not-next_is-2}
use Rattle.escapes.proofs.read_low.Goals.{then-low-lt-LOW-via-then-low-lt-LOW, then-low-lt-LOW-via-else-low-lt-LOW+then-low-ge-BEYOND}

pub returns-then-not-next_is : goal.returns-then-not-next_is
returns-then-not-next_is c =
    elim c.then-not-next_is.branch [ then-not-next_is-via-then-not-next_is w ↦ search low_ways | then-not-next_is-via-else-not-next_is+then-not-next_is-2 w ↦ search low_ways ]

pub returns-in_err-low : goal.returns-in_err-low
returns-in_err-low c = rw c.from_residual.ensures (low-none _ _ _ c.next_is.ensures c.if-not-next_is.false c.next_is-else-not-next_is.ensures c.if-not-next_is-2.false c.in_err-low.ensures)

pub returns-then-low-lt-LOW : goal.returns-then-low-lt-LOW
returns-then-low-lt-LOW c =
    elim c.then-low-lt-LOW.branch [
      | then-low-lt-LOW-via-then-low-lt-LOW w ↦
          low_below _ _ _ c.next_is.ensures c.if-not-next_is.false c.next_is-else-not-next_is.ensures c.if-not-next_is-2.false c.in_ok-low.ensures w.if-low-lt-LOW.true
      | then-low-lt-LOW-via-else-low-lt-LOW+then-low-ge-BEYOND w ↦
          low-above _ _ _ c.next_is.ensures c.if-not-next_is.false c.next_is-else-not-next_is.ensures c.if-not-next_is-2.false c.in_ok-low.ensures w.if-low-lt-LOW.false w.if-low-ge-BEYOND.true
    ]

pub returns : goal.returns
returns c =
    low-pair _ _ _ c.next_is.ensures c.if-not-next_is.false c.next_is-else-not-next_is.ensures c.if-not-next_is-2.false c.in_ok-low.ensures c.requires c.if-low-lt-LOW.false c.if-low-ge-BEYOND.false
