-- Of the code: what it says of a sequence of several bytes.
use Rattle.std.specs.Prelude.{ℕ, ◌<◌, Option, None, Some, List}
use Rattle.cbor.specs.Sequences.{Sequence}

-- the length of the sequence at a place; none where it is bad
abbrev pub Measured : List ℕ → ℕ → Option ℕ → Type 0
Measured s at None = Sequence s at 0
Measured s at (Some n) = Sequence s at n × (0 < n)
