-- Of the code: what the code of string literals answers.
use Rattle.std.specs.Prelude.{ℕ, ◌+◌, ◌*◌, ◌/◌, ◌%◌, ◌≤◌, ◌<◌, ◌≡◌, List, Bool, true, false, Option, None, Some, eqb, length, take, drop}
use Rattle.cbor.specs.Refusals.{Result, ok, refuse}
use Rattle.memory.specs.Buffer.{over}
use Rattle.notation.specs.Numbers.{worth, no_digit, digit_at}
use Rattle.notation.specs.Reading.{marked}
use Rattle.notation.specs.Literals.{is_body, Content, stands_for, bad}
use Rattle.literal_body.specs.declared.LiteralScan.{LiteralScan}
use Rattle.literal_body.specs.declared.RawByte.{RawByte}
use Rattle.literal_body.specs.declared.RawByte.TheVariants.{Stands, Ends, Refused}

-- the number of a digit: its value, 99 where there is none
unfoldable pub digit_number : ℕ → ℕ
digit_number b = elim (digit_at b) [ worth v ↦ v | no_digit ↦ 99 ]

-- t: b is a digit
pub record HexThere (b : ℕ) (t : Bool) : Type 0 where
  pub some : t ≡ true → b % 16 + b / 64 * 9 ≡ digit_number b
  pub none : t ≡ false → 99 ≡ digit_number b

-- SCANS

-- a content c was found, and rest is left behind the closing quote
pub record FoundContent (s : List ℕ) (at : ℕ) (r : LiteralScan) (c rest : List ℕ) : Type 0 where
  pub size : r.size ≡ length c
  pub left : drop r.next (marked s) ≡ rest
  pub inside : r.next ≤ length s
  pub ahead : at < r.next
  pub short : at + r.size < r.next

-- a scan is found just where there is a content
unfoldable pub scanned_by : List ℕ → ℕ → Option LiteralScan → Result (List ℕ) → Type 0
scanned_by s at (Some r) (ok c rest) = FoundContent s at r c rest
scanned_by s at (Some r) (refuse n q) = ⊥
scanned_by s at None (ok c rest) = ⊥
scanned_by s at None (refuse n q) = Unit {0}

-- from a place on, up to the closing quote
pub record Scans (s : List ℕ) (at : ℕ) (r : Option LiteralScan) (res : Result (List ℕ)) : Type 0 where
  pub by : scanned_by s at r res

-- the raw text of an encoded literal: it is the text from `at` on, and the quote stands behind it
pub record Raw (s : List ℕ) (at : ℕ) (r : Option LiteralScan) (res : Result (List ℕ)) : Type 0 where
  pub scans : Scans s at r res
  pub is : (x : LiteralScan) (c rest : List ℕ) → r ≡ Some x → res ≡ ok c rest → c ≡ take x.size (drop at s)
  pub next : (x : LiteralScan) → r ≡ Some x → x.next ≡ at + x.size + 1

-- what a raw text stands for
unfoldable pub decoded_by : Option LiteralScan → Content → Type 0
decoded_by (Some r) (stands_for c) = r.size ≡ length c
decoded_by (Some r) bad = ⊥
decoded_by None (stands_for c) = ⊥
decoded_by None bad = Unit {0}

pub record Decodes (r : Option LiteralScan) (res : Content) : Type 0 where
  pub by : decoded_by r res

-- WRITES: nothing but the content is promised, and only where it fits

-- bytes ws at p, if they fit; r is the place behind them
pub record Put (b b' : List ℕ) (p r : ℕ) (ws : List ℕ) : Type 0 where
  pub same : length b' ≡ length b
  pub is : p + length ws ≤ length b → b' ≡ over b p ws
  pub next : p + length ws ≤ length b → r ≡ p + length ws

pub record Fills (b b' : List ℕ) (p : ℕ) (res : Content) : Type 0 where
  pub same : length b' ≡ length b
  pub is : (c : List ℕ) → res ≡ stands_for c → p + length c ≤ length b → b' ≡ over b p c

pub record Quotes (b b' : List ℕ) (p : ℕ) (res : Result (List ℕ)) : Type 0 where
  pub same : length b' ≡ length b
  pub is : (c rest : List ℕ) → res ≡ ok c rest → p + length c ≤ length b → b' ≡ over b p c

-- what a byte is in a raw text: it stands there, it is the closing quote, it may not stand there
unfoldable pub body_byte : ℕ → RawByte
body_byte b = elim (eqb b 0x27) [ true ↦ Ends | false ↦ elim (eqb b 0x5c) [ true ↦ Refused | false ↦ elim (is_body b) [ true ↦ Stands | false ↦ Refused ] ] ]

pub record BodyByte (b : ℕ) (r : RawByte) : Type 0 where
  pub is : r ≡ body_byte b
