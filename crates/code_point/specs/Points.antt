-- Of the code: the bytes of a code point.
use Rattle.std.specs.Prelude.{ℕ, ◌+◌, ◌%◌, ◌≡◌}

-- the last byte of a code point
pub record Tail (c r : ℕ) : Type 0 where
  pub is : r ≡ 0x80 + c % 0x40
