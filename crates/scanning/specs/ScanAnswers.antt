-- Of the code: what the code that scans answers. s is a text; the definitions read it with its end mark.
use Rattle.std.specs.Prelude.{ℕ, ◌+◌, ◌≤◌, ◌<◌, ◌≡◌, Bool, true, false, Option, None, Some, List, [], ◌∷◌, eqb, length, drop, get_or}
use Rattle.cbor.specs.Refusals.{ok}
use Rattle.notation.specs.Classes.{blank, class_number, class_of, is}
use Rattle.notation.specs.Scanning.{is_comment, Skipping, between, slashed, hashed, skips, stops, skipped, skip_from, skip, run}
use Rattle.notation.specs.Reading.{marked}
use Rattle.scanning.specs.Stands.{Stands, span}

-- r is the number of the class of the byte b
pub record Classed (b r : ℕ) : Type 0 where
  pub is : r ≡ class_number (class_of b)
  pub byte : b < 256

-- BLANKS AND COMMENTS

-- no blank stands at a place
pub record Unblank (s : List ℕ) (at : ℕ) : Type 0 where
  pub is : at < length s → is blank (get_or s at 0) ≡ false
  pub inside : at ≤ length (marked s)

-- from i on there are blanks up to at, and no more
pub record Blanks (s : List ℕ) (i at : ℕ) : Type 0 where
  pub same : skip (drop i (marked s)) ≡ skip (drop at (marked s))
  pub ends : Unblank s at
  pub ahead : i ≤ at

-- whether the byte b may stand in a comment
pub record InComment (b : ℕ) (t : Bool) : Type 0 where
  pub is : t ≡ is_comment b
  pub byte : b < 256

-- in a comment that ends with the byte `end`, from whose first byte on c is left
unfoldable pub in_comment : ℕ → List ℕ → Skipping
in_comment end c = elim (eqb end 0x2f) [ true ↦ slashed c | false ↦ hashed c ]

-- a byte that ends comments does it wherever it stands in one
pub record Ends (end : ℕ) : Type 0 where
  pub is : (c : List ℕ) (b : ℕ) (s : List ℕ) → b ≤ 256 → skipped (in_comment end c) b s ≡ elim (eqb b end) [ true ↦ skips between | false ↦ elim (is_comment b) [ true ↦ skips (in_comment end c) | false ↦ stops c ] ]

-- a comment begins at a place, and `end` ends it
pub record Begins (s : List ℕ) (at end : ℕ) : Type 0 where
  pub here : at < length s
  pub is : skip (drop at (marked s)) ≡ skip_from (in_comment end (drop at (marked s))) (drop (at + 1) (marked s))
  pub ends : Ends end
  pub byte : end < 256

-- no blank and no comment begins at a place
pub record Unbegun (s : List ℕ) (at : ℕ) : Type 0 where
  pub is : skip (drop at (marked s)) ≡ drop at (marked s)
  pub inside : at ≤ length (marked s)

-- at a place where no blank stands: the byte that ends the comment that begins there
abbrev pub CommentEnd : List ℕ → ℕ → Option ℕ → Type 0
CommentEnd s at None = Unbegun s at
CommentEnd s at (Some end) = Begins s at end

-- a comment stands from one place up to another
pub record Passed (s : List ℕ) (at r : ℕ) : Type 0 where
  pub same : skip (drop at (marked s)) ≡ skip (drop r (marked s))
  pub inside : r ≤ length (marked s)
  pub ahead : at < r

-- past a comment; none where it does not end well
abbrev pub PastComment : List ℕ → ℕ → Option ℕ → Type 0
PastComment s at None = Unbegun s at
PastComment s at (Some r) = Passed s at r

-- from i on there are blanks and comments up to at
pub record Skips (s : List ℕ) (i at : ℕ) : Type 0 where
  pub stands : Stands (marked s) at (skip (drop i (marked s)))
  pub ahead : i ≤ at

-- RUNS: from i up to at all elements pass the test, and no more
pub record Ran (s : List ℕ) (test : ℕ → Bool) (i at : ℕ) : Type 0 where
  pub is : run test (drop i (marked s)) ≡ ok (span i at (marked s)) (drop at (marked s))
  pub inside : at ≤ length s
  pub ahead : i ≤ at

-- THE NEXT ELEMENT: whether it is c
unfoldable pub is_next : ℕ → List ℕ → Bool
is_next c [] = false
is_next c (b ∷ r) = eqb b c

pub record Peeked (s : List ℕ) (at c : ℕ) (t : Bool) : Type 0 where
  pub is : t ≡ is_next c (drop at (marked s))
  pub inside : t ≡ true → at + 1 ≤ length s
