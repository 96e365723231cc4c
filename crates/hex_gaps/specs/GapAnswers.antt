-- Of the code: blanks and comments in hexadecimal text. s is a text, read up to `stop`.
use Rattle.std.specs.Prelude.{ℕ, ◌+◌, ◌≤◌, ◌<◌, max, ◌≡◌, Option, None, Some, List, true, false, eqb, get_or}
use Rattle.notation.specs.Numbers.{is_digit}
use Rattle.notation.specs.Literals.{bad, Commenting, no_comment, in_slash, in_hash, Half, hex_from}
use Rattle.scanning.specs.Stands.{span}

-- the comment that a byte ends
unfoldable pub comment_by : ℕ → Commenting
comment_by last = elim (eqb last 0x2f) [ true ↦ in_slash | false ↦ in_hash ]

pub record Closing (last : ℕ) : Type 0 where
  pub is : (last ≡ 0x2f → ⊥) → last ≡ 0x0a

-- what follows the byte at `at` is the comment, which ends before r
pub record Ended (s : List ℕ) (stop at last r : ℕ) : Type 0 where
  pub is : (h : Half) → hex_from (comment_by last) h (span (at + 1) stop s) ≡ hex_from no_comment h (span r stop s)
  pub ahead : at < r
  pub inside : r ≤ stop

-- nothing ends it
pub record Unended (s : List ℕ) (stop at last : ℕ) : Type 0 where
  pub is : (h : Half) → hex_from (comment_by last) h (span (at + 1) stop s) ≡ bad

abbrev pub Commented : List ℕ → ℕ → ℕ → ℕ → Option ℕ → Type 0
Commented s stop at last None = Unended s stop at last
Commented s stop at last (Some r) = Ended s stop at last r

-- nothing but blanks and whole comments stands between two places
pub record Blank (s : List ℕ) (stop from to : ℕ) : Type 0 where
  pub is : (h : Half) → hex_from no_comment h (span from stop s) ≡ hex_from no_comment h (span to stop s)
  pub ahead : from ≤ to
  pub inside : to ≤ max from stop

-- at r a digit stands, or what is wrong
pub record Gap (s : List ℕ) (stop at r : ℕ) : Type 0 where
  pub blank : Blank s stop at r
  pub none : r ≡ at → is_digit 16 (get_or s at 0) ≡ false → (h : Half) → hex_from no_comment h (span at stop s) ≡ bad

pub record Gaps (s : List ℕ) (stop from r : ℕ) : Type 0 where
  pub blank : Blank s stop from r
  pub none : r < stop → is_digit 16 (get_or s r 0) ≡ false → (h : Half) → hex_from no_comment h (span r stop s) ≡ bad
