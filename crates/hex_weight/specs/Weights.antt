-- Of the code: what two bytes side by side make. s is a text.
use Rattle.std.specs.Prelude.{ℕ, ◌+◌, ◌*◌, ◌≤◌, ◌<◌, ◌≡◌, List, true, false, get_or}
use Rattle.notation.specs.Numbers.{digit_value, is_digit}

-- what a byte adds to a pair; 256: it is no digit
unfoldable pub pair_weight : ℕ → ℕ
pair_weight b = elim (is_digit 16 b) [ true ↦ digit_value b | false ↦ 256 ]

pub record Weighs (b r : ℕ) : Type 0 where
  pub is : r < 256 → r ≡ pair_weight b
  pub most : r ≤ 512

-- r is the byte that two digits make, unless it is too large for one
pub record PairThere (s : List ℕ) (at r : ℕ) : Type 0 where
  pub is : r < 256 → r ≡ pair_weight (get_or s at 0) * 16 + pair_weight (get_or s (at + 1) 0)
