-- Of the code: the pieces of quoted strings, which are an escape or a run of plain bytes. s is a text.
use Rattle.std.specs.Prelude.{ℕ, ◌+◌, ◌≤◌, ◌<◌, ◌≡◌, List, Option, None, Some, length, drop, get_or}
use Rattle.cbor.specs.Refusals.{no_token}
use Rattle.notation.specs.Scanning.{fault}
use Rattle.notation.specs.Reading.{marked}
use Rattle.notation.specs.Quoted.{character, gives, unquote}
use Rattle.scanning.specs.TextRuns.{Textual}
use Rattle.literal_body.specs.LiteralAnswers.{Put}
use Rattle.escapes.specs.EscapeAnswers.{onward}
use Rattle.quoted.specs.declared.ReadPiece.{ReadPiece}

pub record Part (s : List ℕ) (from end : ℕ) : Type 0 where
  pub ahead : from ≤ end
  pub inside : end ≤ length s

-- the byte b stands at a place, and is no quote
pub record AtPiece (s : List ℕ) (q at b : ℕ) : Type 0 where
  pub here : at < length s
  pub is : get_or s at 0 ≡ b
  pub other : b ≡ q → ⊥

-- a byte stands there that stands for itself
pub record AtPlain (s : List ℕ) (q at : ℕ) : Type 0 where
  pub here : at < length s
  pub is : Textual q 0x5c (get_or s at 0)

-- bytes are given by what stands from a place on, and written at p
pub record PieceGiven (s : List ℕ) (q at : ℕ) (b b' : List ℕ) (p : ℕ) (r : ReadPiece) : Type 0 where
  pub given : List ℕ
  pub is : unquote q character (drop at (marked s)) ≡ onward q (gives given character) (drop r.next (marked s))
  pub put : Put b b' p r.pos given
  pub size : r.size ≡ length given
  pub short : at + r.size ≤ r.next
  pub ahead : at < r.next
  pub inside : r.next ≤ length s

pub record Pieced (s : List ℕ) (q at : ℕ) (b b' : List ℕ) (p : ℕ) (r : Option ReadPiece) : Type 0 where
  pub good : (x : ReadPiece) → r ≡ Some x → PieceGiven s q at b b' p x
  pub bad : r ≡ None → unquote q character (drop at (marked s)) ≡ fault no_token
  pub same : length b' ≡ length b
