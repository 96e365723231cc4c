-- Of the code: eight bytes of a text as one number, the first byte lowest, and the number that digits in its bytes make. s is a text.
use Rattle.std.specs.Prelude.{◌≡◌, ℕ, zero, suc, ◌+◌, ◌*◌, ◌/◌, ◌%◌, ◌^◌, ◌<◌, ◌≤◌, List, slice_index}

pub record Wide (b r : ℕ) : Type 0 where
  pub is : r ≡ b
  pub byte : r < 256

-- k bytes from a place on, as a number
unfoldable pub word_at : List ℕ → ℕ → ℕ → ℕ
word_at s at zero = 0
word_at s at (suc k) = slice_index s at + 256 * word_at s (at + 1) k

pub record Eight (s : List ℕ) (at r : ℕ) : Type 0 where
  pub is : r ≡ word_at s at 8
  pub bytes : (i : ℕ) → slice_index s i < 256

-- the k low bytes of x are values of digits
pub data Small : ℕ → ℕ → Type 0 where
  none : {x : ℕ} → Small zero x
  one : {k x : ℕ} → x % 256 ≤ 9 → Small k (x / 256) → Small (suc k) x

-- the number that v makes with the k low bytes of x behind it as digits, the lowest byte first
unfoldable pub joined : ℕ → ℕ → ℕ → ℕ
joined v zero x = v
joined v (suc k) x = joined (v * 10 + x % 256) k (x / 256)

-- as many low bytes as r has zeros there, x has values of digits
pub record Marks (x r : ℕ) : Type 0 where
  pub is : (n : ℕ) → n ≤ 8 → r % 256 ^ n ≡ 0 → Small n x

-- the n low bytes of t are zeros
pub record Clear (t n : ℕ) : Type 0 where
  pub is : t % 256 ^ n ≡ 0
  pub most : n ≤ 8

-- eight values of digits, which make what the n low bytes of x make
pub record Raised (x n r : ℕ) : Type 0 where
  pub small : Small 8 r
  pub same : joined 0 8 r ≡ joined 0 n x
