-- Of the code: of a string, its digits between quotes, and the bytes of a block that stand for themselves.
use Rattle.std.specs.Prelude.{ℕ, ◌+◌, ◌≤◌, ◌<◌, ◌≡◌, List, [], ◌∷◌, ◌++◌, length, get_or}
use Rattle.notation.specs.Printing.{hex_of, escape_of}

-- 0 for a byte that is ASCII
pub record High (b r : ℕ) : Type 0 where
  pub is : r ≡ 0 → b < 0x80
  pub small : r ≤ 1

-- a byte string, whose head is the shortest
unfoldable pub quoted_hex : List ℕ → List ℕ
quoted_hex b = 0x68 ∷ 0x27 ∷ (hex_of b ++ 0x27 ∷ [])

-- a byte b at a place i below r is ASCII and stands for itself between quotes
pub record Stop (b i r : ℕ) : Type 0 where
  pub is : i < r → (b < 0x80) × (length (escape_of b) ≡ 1)
  pub most : r ≤ 32

-- so does each from one place on, before the first i and before r
pub record Stops (s : List ℕ) (from i r : ℕ) : Type 0 where
  pub is : (j : ℕ) → j < i → j < r → (get_or s (from + j) 0 < 0x80) × (length (escape_of (get_or s (from + j) 0)) ≡ 1)
  pub most : r ≤ 32
