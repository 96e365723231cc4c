-- Of the code: the next block of a content.
use Rattle.std.specs.Prelude.{ℕ, ◌≤◌, ◌<◌}

-- r is behind a place, and within size
pub record Beyond (at size r : ℕ) : Type 0 where
  pub ahead : at < size → at < r
  pub inside : r ≤ size
  pub behind : at ≤ r
