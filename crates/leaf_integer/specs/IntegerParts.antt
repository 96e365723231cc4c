-- Of the code: of an integer, its sign and the number that its bytes make.
use Rattle.std.specs.Prelude.{ℕ, ◌+◌, ◌*◌, ◌/◌, ◌^◌, ◌<◌, ◌≤◌, ◌≡◌, true, false, List, [], ◌∷◌, eqb, get_or, take, drop}
use Rattle.leaf_written.specs.Laying.{Laid}
use Rattle.cbor.specs.Widths.{value_from}

-- the sign of an integer, by its major type
unfoldable pub minus_of : ℕ → List ℕ
minus_of major = elim (eqb major 0) [ true ↦ [] | false ↦ 0x2d ∷ [] ]

-- n and one byte more
pub record More (n b r : ℕ) : Type 0 where
  pub is : r ≡ n * 256 + b
  pub byte : b < 256

-- the number that k bytes make from a place on
pub record Valued (s : List ℕ) (from k n : ℕ) : Type 0 where
  pub is : n ≡ value_from 0 (take k (drop from s))
  pub small : n < 256 ^ k

-- an argument of k bytes that is not below `least`; n is what follows the sign, which is written before p
pub record Signed (s : List ℕ) (at k least : ℕ) (b b' : List ℕ) (pos n p : ℕ) : Type 0 where
  pub argument : ℕ
  pub valued : Valued s (at + 1) k argument
  pub enough : least ≤ argument
  pub is : n ≡ argument + get_or s at 0 / 32
  pub laid : Laid b b' pos (minus_of (get_or s at 0 / 32)) p
  pub near : p ≤ pos + 1
