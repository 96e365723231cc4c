-- Of the code: runs of bytes that stand for themselves between quotes, and how much longer the others get.
use Rattle.std.specs.Prelude.{ℕ, ◌+◌, ◌≤◌, ◌<◌, ◌≡◌, List, Bool, true, false, ltb, eqb, length, get_or}
use Rattle.notation.specs.Printing.{escape_of}

unfoldable pub more_below : ℕ → ℕ
more_below b = elim (ltb b 0x20) [ true ↦ 5 | false ↦ 0 ]

unfoldable pub more_at : ℕ → ℕ → ℕ
more_at b c = elim (eqb b c) [ true ↦ 1 | false ↦ 0 ]

-- b takes 1 + r bytes
pub record More (b r : ℕ) : Type 0 where
  pub is : 1 + r ≡ length (escape_of b)
  pub small : r ≤ 5

-- each byte takes one
pub record AllPlain (s : List ℕ) : Type 0 where
  pub is : (j : ℕ) → j < length s → length (escape_of (get_or s j 0)) ≡ 1

pub record Plain (s : List ℕ) (t : Bool) : Type 0 where
  pub is : t ≡ true → AllPlain s

-- and each from one place up to another
pub record PlainRun (s : List ℕ) (from at : ℕ) : Type 0 where
  pub is : (j : ℕ) → from ≤ j → j < at → length (escape_of (get_or s j 0)) ≡ 1
  pub inside : at ≤ length s
  pub ahead : from ≤ at
