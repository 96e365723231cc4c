-- Of the code: what is written into a buffer that has room for it. Nothing is said of what stands behind it.
use Rattle.std.specs.Prelude.{ℕ, ◌+◌, ◌≤◌, ◌≡◌, List, ◌++◌, length, take}

-- from b to b': ws stands from pos on, and what stands before it is as it was. r is the place behind ws
pub record Laid (b b' : List ℕ) (pos : ℕ) (ws : List ℕ) (r : ℕ) : Type 0 where
  pub same : length b' ≡ length b
  pub next : r ≡ pos + length ws
  pub room : r ≤ length b
  pub is : take r b' ≡ take pos b ++ ws
