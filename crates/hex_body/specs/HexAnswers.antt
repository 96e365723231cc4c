-- Of the code: what the code of hexadecimal text answers. s is a text, read up to `stop`.
use Rattle.std.specs.Prelude.{ℕ, ◌≤◌, ◌≡◌, List, [], ◌∷◌}
use Rattle.notation.specs.Literals.{stands_for, bad, hex_content}
use Rattle.scanning.specs.Stands.{span}
use Rattle.literal_body.specs.LiteralReading.{Yields}
use Rattle.hex_body.specs.declared.NextByte.{NextByte}
use Rattle.hex_body.specs.declared.NextByte.TheVariants.{Byte, End, Wrong}

unfoldable pub byte_read : List ℕ → ℕ → ℕ → NextByte → Type 0
byte_read s stop from (Byte v next) = Yields hex_content s stop from next (v ∷ []) × (next ≤ stop)
byte_read s stop from End = hex_content (span from stop s) ≡ stands_for []
byte_read s stop from Wrong = hex_content (span from stop s) ≡ bad

-- the next byte, or what is there in place of one
pub record ByteRead (s : List ℕ) (stop from : ℕ) (r : NextByte) : Type 0 where
  pub by : byte_read s stop from r
