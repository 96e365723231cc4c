-- Of the code: what the code of escapes in quoted strings says of its parts. s is a text.
use Rattle.std.specs.Prelude.{ℕ, ◌+◌, ◌-◌, ◌*◌, ◌≤◌, ◌<◌, ◌≡◌, List, [], ◌∷◌, ◌++◌, false, Option, None, Some, length, drop}
use Rattle.cbor.specs.Refusals.{Result, ok, bind, no_token}
use Rattle.notation.specs.Scanning.{fault}
use Rattle.notation.specs.Reading.{marked}
use Rattle.notation.specs.Quoted.{utf8_of, Before, no_surrogate, Quoting, character, escape, unicode, Move, gives, closed, wrong, escapes, escaped_in, whole_unit, unit, unquote}
use Rattle.scanning.specs.ScanAnswers.{is_next}
use Rattle.escapes.specs.declared.ReadEscape.{ReadEscape}

-- what a move makes of the text behind it
unfoldable pub onward : ℕ → Move → List ℕ → Result (List ℕ)
onward q (gives w k) s = bind (unquote q k s) (λ c r. ok (w ++ c) r)
onward q closed s = ok [] s
onward q wrong s = fault no_token

-- LETTERS

unfoldable pub escaped_as : Option ℕ → Move
escaped_as None = wrong
escaped_as (Some r) = gives (r ∷ []) character

pub record Escaped (b : ℕ) (r : Option ℕ) : Type 0 where
  pub is : escaped_in escapes b ≡ escaped_as r
  pub low : (n : ℕ) → r ≡ Some n → n < 0x80

-- DIGITS

-- a digit of the value v stands at a place
pub record DigitHere (s : List ℕ) (at v : ℕ) : Type 0 where
  pub is : (q k c : ℕ) (h : Before) → unquote q (unicode k c h) (drop at (marked s)) ≡ onward q (unit (k - 1) (c * 16 + v) h) (drop (at + 1) (marked s))
  pub inside : at < length s
  pub low : v < 16

-- the digit at a place, if there is one
pub record DigitAt (s : List ℕ) (at : ℕ) (r : Option ℕ) : Type 0 where
  pub none : r ≡ None → (q k c : ℕ) (h : Before) → unquote q (unicode k c h) (drop at (marked s)) ≡ fault no_token
  pub some : (v : ℕ) → r ≡ Some v → DigitHere s at v

-- the four digits at a place make the unit u
pub record UnitHere (s : List ℕ) (at u : ℕ) : Type 0 where
  pub is : (q : ℕ) (h : Before) → unquote q (unicode 4 0 h) (drop at (marked s)) ≡ onward q (whole_unit h u) (drop (at + 4) (marked s))
  pub inside : at + 4 ≤ length s
  pub low : u < 0x10000

-- the unit of the four digits at a place, if there are four
pub record UnitAt (s : List ℕ) (at : ℕ) (r : Option ℕ) : Type 0 where
  pub none : r ≡ None → (q : ℕ) (h : Before) → unquote q (unicode 4 0 h) (drop at (marked s)) ≡ fault no_token
  pub some : (u : ℕ) → r ≡ Some u → UnitHere s at u

-- a high surrogate
pub record Surrogate (h : ℕ) : Type 0 where
  pub from : 0xd800 ≤ h
  pub top : h ≤ 0xdbff

-- ESCAPES

-- from a place in an escape on: the rest of it stands for a code point, or it may not stand there
pub record Unescapes (s : List ℕ) (q : ℕ) (k : Quoting) (at : ℕ) (r : Option ReadEscape) : Type 0 where
  pub good : (e : ReadEscape) → r ≡ Some e → unquote q k (drop at (marked s)) ≡ onward q (gives (utf8_of e.point) character) (drop e.next (marked s))
  pub bad : r ≡ None → unquote q k (drop at (marked s)) ≡ fault no_token

-- it gives no more bytes than it has
pub record Behind (s : List ℕ) (at : ℕ) (e : ReadEscape) : Type 0 where
  pub point : e.point < 0x110000
  pub inside : e.next ≤ length s
  pub short : at + length (utf8_of e.point) ≤ e.next

pub record Escapes (s : List ℕ) (k : Quoting) (at : ℕ) (r : Option ReadEscape) : Type 0 where
  pub reads : (q : ℕ) → Unescapes s q k at r
  pub place : (e : ReadEscape) → r ≡ Some e → Behind s at e

-- behind a backslash, where no quote is next
pub record EscapesUnquoted (s : List ℕ) (at : ℕ) (r : Option ReadEscape) : Type 0 where
  pub reads : (q : ℕ) → q < 256 → is_next q (drop at (marked s)) ≡ false → Unescapes s q (escape no_surrogate) at r
  pub place : (e : ReadEscape) → r ≡ Some e → Behind s at e
