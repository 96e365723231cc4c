-- Of the code: runs of hexadecimal digits, and the bytes that they make. s is a text, read up to `stop`.
use Rattle.std.specs.Prelude.{ℕ, zero, suc, ◌+◌, ◌*◌, ◌≤◌, ◌<◌, ◌≡◌, List, [], ◌∷◌, ◌++◌, true, length, take, drop, get_or}
use Rattle.notation.specs.Numbers.{digit_value, is_digit}
use Rattle.notation.specs.Literals.{stands_for, hex_content}
use Rattle.literal_body.specs.LiteralAnswers.{Put}
use Rattle.literal_body.specs.LiteralReading.{Yields}

-- r is beyond i only where the byte b is a digit
pub record DigitStop (b i r : ℕ) : Type 0 where
  pub is : i < r → is_digit 16 b ≡ true

-- the first r of 32 bytes are digits
pub record DigitBlock (s : List ℕ) (at r : ℕ) : Type 0 where
  pub is : (j : ℕ) → j < r → is_digit 16 (get_or s (at + j) 0) ≡ true
  pub most : r ≤ 32

-- all bytes from one place up to another are digits
pub record HexDigits (s : List ℕ) (from to : ℕ) : Type 0 where
  pub is : (j : ℕ) → from ≤ j → j < to → is_digit 16 (get_or s j 0) ≡ true
  pub ahead : from ≤ to
  pub inside : to ≤ length s

-- their values
pub record BlockValues (s : List ℕ) (from : ℕ) (t : List ℕ) : Type 0 where
  pub is : (j : ℕ) → j < 32 → get_or t j 0 ≡ digit_value (get_or s (from + j) 0)
  pub small : (j : ℕ) → j < 32 → get_or t j 0 < 16

-- the n bytes that digits from a place on make
unfoldable pub pair_bytes : List ℕ → ℕ → ℕ → List ℕ
pair_bytes s from zero = []
pair_bytes s from (suc n) = pair_bytes s from n ++ ((digit_value (get_or s (from + 2 * n) 0) * 16 + digit_value (get_or s (from + 2 * n + 1) 0)) ∷ [])

-- they are written from p on, and are what the text stands for
pub record PairsPut (s : List ℕ) (from n : ℕ) (b b' : List ℕ) (p r : ℕ) : Type 0 where
  pub bytes : List ℕ
  pub stand : hex_content (take (2 * n) (drop from s)) ≡ stands_for bytes
  pub count : length bytes ≡ n
  pub put : Put b b' p r bytes
  pub yields : (stop : ℕ) → from + 2 * n ≤ stop → stop ≤ length s → Yields hex_content s stop from (from + 2 * n) bytes
