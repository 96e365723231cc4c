-- Of the code: heads that the quick walk knows at a glance. What is said of them holds where they are seen to be such, and no more is said.
use Rattle.std.specs.Prelude.{ℕ, Some, ◌*◌, ◌/◌, ◌%◌, ◌≤◌, ◌<◌, ◌≡◌, List, length, get_or}
use Rattle.head.specs.HeadAnswers.{argument_at, HeadEnd}

-- bytes whose ends and sizes go into one number
pub record Small (s : List ℕ) : Type 0 where
  pub is : length s < 4294967295

-- an initial byte b that is all of a head, and how many items stand behind it
pub data Opening (b r : ℕ) : Type 0 where
  of_array : b / 32 ≡ 4 → r ≡ b % 32 → Opening b r
  of_map : b / 32 ≡ 5 → r ≡ b % 32 * 2 → Opening b r
  of_tag : b / 32 ≡ 6 → r ≡ 1 → Opening b r

pub record Inner (b r : ℕ) : Type 0 where
  pub is : r < 0xff → Opening b r
  pub short : r < 0xff → b % 32 < 24
  pub byte : b < 256

-- the head of a string of n bytes, at the front, ends at `end`
pub record Lengthy (s : List ℕ) (end n : ℕ) : Type 0 where
  pub small : Small s
  pub head : HeadEnd s 0 (Some end)
  pub argument : n ≡ argument_at s 0
  pub low : 2 ≤ get_or s 0 0 / 32
  pub high : get_or s 0 0 / 32 ≤ 3
  pub definite : get_or s 0 0 % 32 ≡ 31 → ⊥

-- r is the length of a string at the front, in two bytes, if it is as small as that
pub record TwoBytes (s : List ℕ) (r : ℕ) : Type 0 where
  pub is : r < 65536 → Small s → Lengthy s 3 r
