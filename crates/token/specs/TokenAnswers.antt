-- Of the code: what the code's tokens say of the tokens of the definitions. s is a text.
use Rattle.std.specs.Prelude.{ℕ, zero, suc, ◌-◌, ◌≤◌, ◌<◌, ◌≡◌, List, length, take, drop}
use Rattle.cbor.specs.Refusals.{Result, ok, refuse}
use Rattle.cbor.specs.Widths.{Width, w0, w1, w2, w4, w8}
use Rattle.cbor.specs.Items.{unsigned, negative, Kind, byte_string, text_string, Size, definite, indefinite, Item, int, string, chunked, array, map, tag, simple}
use Rattle.notation.specs.Indicators.{Indicator, absent, indefinitely, unknown, wide}
use Rattle.notation.specs.Scanning.{skip}
use Rattle.notation.specs.Quoted.{character, unquote}
use Rattle.notation.specs.Literals.{Content, stands_for, hex_content, base64_content}
use Rattle.notation.specs.Tokens.{Opener, bracket, brace, tagging, embedding, Beginning, leaf, literal, chunking, opens, Shape, square, curly, round, angle, whole, Token, begins, closes, a_comma, a_colon}
use Rattle.notation.specs.Cutting.{next}
use Rattle.notation.specs.Reading.{marked}
use Rattle.scanning.specs.Stands.{Stands}
use Rattle.token.specs.declared.Token.{Token as Cut}

-- INDICATORS: 0 none, 1 `_` alone, 2 unknown, 3 to 7 the widths; so is the size of a literal
unfoldable pub width_number : Width → ℕ
width_number w0 = 3
width_number w1 = 4
width_number w2 = 5
width_number w4 = 6
width_number w8 = 7

unfoldable pub indicator_number : Indicator → ℕ
indicator_number absent = 0
indicator_number indefinitely = 1
indicator_number unknown = 2
indicator_number (wide w) = width_number w

unfoldable pub size_number : Size → ℕ
size_number (definite w) = width_number w
size_number indefinite = 1

-- CODES: 1 an unsigned integer, 2 a negative one, 3 a simple value, 4 a text literal, 5 a byte literal, 6 the opening of a tag; each other
-- token has the number of its first byte's class. 0 is no token, 7 no token that is ever cut
unfoldable pub item_code : Item → ℕ
item_code (int unsigned w n) = 1
item_code (int negative w n) = 2
item_code (string k w b) = 7
item_code (chunked k cs) = 7
item_code (array z xs) = 7
item_code (map z ps) = 7
item_code (tag w n x) = 7
item_code (simple n) = 3

unfoldable pub open_code : Opener → ℕ
open_code (bracket i) = 15
open_code (brace i) = 17
open_code (tagging w n) = 6
open_code embedding = 19

unfoldable pub kind_code : Kind → ℕ
kind_code text_string = 4
kind_code byte_string = 5

unfoldable pub begin_code : Beginning → ℕ
begin_code (leaf x) = item_code x
begin_code (literal k z b) = kind_code k
begin_code chunking = 13
begin_code (opens o) = open_code o

unfoldable pub shape_code : Shape → ℕ
shape_code round = 14
shape_code square = 16
shape_code curly = 18
shape_code angle = 20
shape_code whole = 21

unfoldable pub code_of : Token → ℕ
code_of (begins g) = begin_code g
code_of (closes h i) = shape_code h
code_of a_comma = 11
code_of a_colon = 12

-- the number of a token's indicator, or of the width or the size that it gives
unfoldable pub item_mark : Item → ℕ
item_mark (int g w n) = width_number w
item_mark (string k w b) = width_number w
item_mark (chunked k cs) = 0
item_mark (array z xs) = size_number z
item_mark (map z ps) = size_number z
item_mark (tag w n x) = width_number w
item_mark (simple n) = 0

unfoldable pub open_mark : Opener → ℕ
open_mark (bracket i) = indicator_number i
open_mark (brace i) = indicator_number i
open_mark (tagging w n) = width_number w
open_mark embedding = 0

unfoldable pub begin_mark : Beginning → ℕ
begin_mark (leaf x) = item_mark x
begin_mark (literal k z b) = size_number z
begin_mark chunking = 0
begin_mark (opens o) = open_mark o

unfoldable pub mark_of : Token → ℕ
mark_of (begins g) = begin_mark g
mark_of (closes h i) = indicator_number i
mark_of a_comma = 0
mark_of a_colon = 0

-- its number: an argument, a simple value, or how many bytes a literal stands for
unfoldable pub item_number : Item → ℕ
item_number (int g w n) = n
item_number (string k w b) = 0
item_number (chunked k cs) = 0
item_number (array z xs) = 0
item_number (map z ps) = 0
item_number (tag w n x) = n
item_number (simple n) = n

unfoldable pub open_number : Opener → ℕ
open_number (bracket i) = 0
open_number (brace i) = 0
open_number (tagging w n) = n
open_number embedding = 0

unfoldable pub begin_number : Beginning → ℕ
begin_number (leaf x) = item_number x
begin_number (literal k z b) = length b
begin_number chunking = 0
begin_number (opens o) = open_number o

unfoldable pub number_of : Token → ℕ
number_of (begins g) = begin_number g
number_of (closes h i) = 0
number_of a_comma = 0
number_of a_colon = 0

-- HOW A LITERAL IS WRITTEN: 0 "..", 1 '..', 2 h'..', 3 b64'..'
pub record QuotedAs (s : List ℕ) (q start : ℕ) (b : List ℕ) : Type 0 where
  pub rest : List ℕ
  pub is : unquote q character (drop start (marked s)) ≡ ok b rest

pub record EncodedAs (s : List ℕ) (read : List ℕ → Content) (start stop : ℕ) (b : List ℕ) : Type 0 where
  pub is : read (take (stop - start) (drop start s)) ≡ stands_for b

unfoldable pub Spelled : List ℕ → ℕ → ℕ → ℕ → List ℕ → Type 0
Spelled s zero start stop b = QuotedAs s 0x22 start b
Spelled s (suc zero) start stop b = QuotedAs s 0x27 start b
Spelled s (suc (suc zero)) start stop b = EncodedAs s hex_content start stop b
Spelled s (suc (suc (suc form))) start stop b = EncodedAs s base64_content start stop b

unfoldable pub BeginsAs : List ℕ → Cut → Beginning → Type 0
BeginsAs s t (leaf x) = Unit {0}
BeginsAs s t (literal k z b) = Spelled s t.form t.start t.stop b
BeginsAs s t chunking = Unit {0}
BeginsAs s t (opens o) = Unit {0}

unfoldable pub Written : List ℕ → Cut → Token → Type 0
Written s t (begins g) = BeginsAs s t g
Written s t (closes h i) = Unit {0}
Written s t a_comma = Unit {0}
Written s t a_colon = Unit {0}

-- ANSWERS

-- t is the token tok, with r behind it
pub record Seen (s : List ℕ) (t : Cut) (tok : Token) (r : List ℕ) : Type 0 where
  pub code : t.kind ≡ code_of tok
  pub indicator : t.indicator ≡ mark_of tok
  pub number : t.argument ≡ number_of tok
  pub written : Written s t tok
  pub next : Stands (marked s) t.next r

-- t is no token, but a refusal by the number k
pub record Failed (t : Cut) (k : ℕ) : Type 0 where
  pub code : t.kind ≡ 0
  pub refusal : t.refusal ≡ k

unfoldable pub Shown : List ℕ → Cut → Result Token → Type 0
Shown s t (ok tok r) = Seen s t tok r
Shown s t (refuse k q) = Failed t k

-- t is what a definition gives, of a token that begins at a place
pub record Says (s : List ℕ) (p : ℕ) (t : Cut) (res : Result Token) : Type 0 where
  pub shown : Shown s t res
  pub place : t.place ≡ p

-- t is the first token from at on; a refusal stands at its place
pub record Took (s : List ℕ) (at : ℕ) (t : Cut) : Type 0 where
  pub shown : Shown s t (next (drop at (marked s)))
  pub place : Stands (marked s) t.place (skip (drop at (marked s)))
  pub from : at ≤ t.place
  pub ahead : (t.kind ≡ 0 → ⊥) → t.place < t.next

-- what the two functions that make a token answer
pub record Refused (k p : ℕ) (t : Cut) : Type 0 where
  pub code : t.kind ≡ 0
  pub refusal : t.refusal ≡ k
  pub place : t.place ≡ p

pub record TokenMade (c i n p x : ℕ) (t : Cut) : Type 0 where
  pub code : t.kind ≡ c
  pub indicator : t.indicator ≡ i
  pub number : t.argument ≡ n
  pub place : t.place ≡ p
  pub next : t.next ≡ x
