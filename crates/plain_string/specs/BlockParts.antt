-- Of the code: what the code of short strings says of its parts. s is a text.
use Rattle.std.specs.Prelude.{ℕ, zero, suc, ◌+◌, ◌*◌, ◌/◌, ◌%◌, ◌≤◌, ◌<◌, ◌≡◌, List, [], ◌∷◌, ◌++◌, Bool, true, length, get_or}
use Rattle.hex_pairs.specs.PairAnswers.{HexDigits}

-- t: n bytes stand from a place on, up to a size
pub record HasRoom (size from n : ℕ) (t : Bool) : Type 0 where
  pub is : t ≡ true → from + n ≤ size

-- t: a string of n bytes is short, with a block of the text from a place on, and there is room
pub record Short (n most size from room pos wanted : ℕ) (t : Bool) : Type 0 where
  pub few : t ≡ true → n ≤ most
  pub block : t ≡ true → from + 32 ≤ size
  pub fits : t ≡ true → pos + wanted ≤ room

-- n bytes of a text, with a block to take from there, and room for a head and a block
pub record ShortPart (s : List ℕ) (from n : ℕ) (b : List ℕ) (pos : ℕ) : Type 0 where
  pub few : n ≤ 23
  pub block : from + 32 ≤ length s
  pub room : pos + 33 ≤ length b

-- the same of the digits of n bytes
pub record ShortPairs (s : List ℕ) (from n : ℕ) (b : List ℕ) (pos : ℕ) : Type 0 where
  pub digits : HexDigits s from (from + 2 * n)
  pub few : n ≤ 16
  pub block : from + 32 ≤ length s
  pub room : pos + 17 ≤ length b

-- the value of a digit, or some number below 16
unfoldable pub nibble_of : ℕ → ℕ
nibble_of b = (b % 16 + b / 64 * 9) % 16

pub record Nibbles (s : List ℕ) (from : ℕ) (t : List ℕ) : Type 0 where
  pub is : (j : ℕ) → j < 32 → get_or t j 0 ≡ nibble_of (get_or s (from + j) 0)

-- k bytes, of two bytes of the text each
unfoldable pub pair_block : List ℕ → ℕ → ℕ → List ℕ
pair_block s from zero = []
pair_block s from (suc k) = pair_block s from k ++ ((nibble_of (get_or s (from + 2 * k) 0) * 16 + nibble_of (get_or s (from + (2 * k + 1)) 0)) ∷ [])
