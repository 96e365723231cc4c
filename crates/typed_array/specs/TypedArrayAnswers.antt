-- Of the code: what the code of typed arrays answers.
use Rattle.std.specs.Prelude.{ℕ, ◌%◌, ◌<◌, ◌≡◌, Bool, ◌&&◌, eqb}
use Rattle.cbor.specs.TypedArrays.{element_size, asked}

pub record ElementSize (n r : ℕ) : Type 0 where
  pub is : r ≡ element_size n
  pub some : 0 < r

-- the same, by whether the item is a byte string, and its length
unfoldable pub may_tag_by : ℕ → Bool → ℕ → Bool
may_tag_by n bytes l = asked n (bytes && eqb (l % element_size n) 0)
