-- Of the code: the number of a letter of base64 text, and what it adds to a word.
use Rattle.std.specs.Prelude.{ℕ, ◌≤◌, ◌<◌, ◌≡◌}
use Rattle.notation.specs.Literals.{Sextet, sextet, padding, non_alphabet, sextet_at}

-- the number of a sextet
unfoldable pub sextet_number : Sextet → ℕ
sextet_number (sextet v) = v
sextet_number padding = 64
sextet_number non_alphabet = 65

-- what a byte adds to a word of four letters; 2^24: it has no value
unfoldable pub sextet_weight : ℕ → ℕ
sextet_weight b = elim (sextet_at b) [ sextet v ↦ v | padding ↦ 0x100_0000 | non_alphabet ↦ 0x100_0000 ]

pub record Weighs (b r : ℕ) : Type 0 where
  pub is : r < 0x100_0000 → r ≡ sextet_weight b
  pub most : r ≤ 0x200_0000
