-- Of the code: what it says of runs of ASCII.
use Rattle.std.specs.Prelude.{ℕ, ◌+◌, ◌≤◌, ◌<◌, ◌≡◌, List, Bool, true, length, get_or}

-- if t, the n bytes from a place on are ASCII
pub record Block (s : List ℕ) (at n : ℕ) (t : Bool) : Type 0 where
  pub is : t ≡ true → (j : ℕ) → j < n → get_or s (at + j) 0 < 0x80

-- from one place up to another there is ASCII only
pub record Ascii (s : List ℕ) (from at : ℕ) : Type 0 where
  pub is : (j : ℕ) → from ≤ j → j < at → get_or s j 0 < 0x80
  pub inside : at ≤ length s
  pub ahead : from ≤ at

-- if t, all is ASCII
pub record AllAscii (s : List ℕ) (t : Bool) : Type 0 where
  pub is : t ≡ true → (j : ℕ) → j < length s → get_or s j 0 < 0x80
