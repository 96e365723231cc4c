-- Of the code: what the code of UTF-8 says of its parts.
use Rattle.std.specs.Prelude.{ℕ, zero, suc, ◌+◌, ◌≤◌, ◌≡◌, List, [], ◌∷◌, length, drop, get_or}
use Rattle.cbor.specs.Utf8.{Range, ◌to◌, Follow, nothing, these, follow, sequence_by}

-- the ranges of n bytes behind a first byte: the bounds of the first of them are given
unfoldable pub ranges : ℕ → ℕ → ℕ → List Range
ranges zero low high = []
ranges (suc n) low high = (low to high) ∷ ranges n 0x80 0xbf

-- what must stand behind the first byte of a sequence of n bytes; n is 0 where no sequence begins so
unfoldable pub behind_first : ℕ → ℕ → ℕ → Follow
behind_first zero low high = nothing
behind_first (suc n) low high = these (ranges n low high)

-- r is the length of the sequence at a place, 0 where it is bad
pub record Sequence (s : List ℕ) (at r : ℕ) : Type 0 where
  pub is : r ≡ sequence_by (follow (get_or s at 0)) (drop (at + 1) s)
  pub inside : at + r ≤ length s
