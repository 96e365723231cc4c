-- Of the code: runs of text bytes, up to one of two that end them.
use Rattle.std.specs.Prelude.{ℕ, ◌+◌, ◌≤◌, ◌<◌, ◌≡◌, List, length, get_or}

-- the byte b is in a run that ends at x and at y
pub record Textual (x y b : ℕ) : Type 0 where
  pub low : 0x20 ≤ b
  pub high : b < 256
  pub first : b ≡ x → ⊥
  pub second : b ≡ y → ⊥

-- r is beyond i only where the byte b is in the run
pub record Stop (x y b i r : ℕ) : Type 0 where
  pub is : i < r → Textual x y b

-- the first r of 32 bytes are in the run
pub record TextBlock (s : List ℕ) (x y at r : ℕ) : Type 0 where
  pub is : (j : ℕ) → j < r → Textual x y (get_or s (at + j) 0)
  pub most : r ≤ 32

-- from one place up to another all bytes are in the run. That it ends as late as it might is not said: no caller asks
pub record TextRun (s : List ℕ) (x y from at : ℕ) : Type 0 where
  pub is : (j : ℕ) → from ≤ j → j < at → Textual x y (get_or s j 0)
  pub inside : at ≤ length s
  pub ahead : from ≤ at
