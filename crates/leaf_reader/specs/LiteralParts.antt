-- Of the code: what the readers of string literals that are seldom written so say of their parts. s is a text.
use Rattle.std.specs.Prelude.{ℕ, ◌+◌, ◌≤◌, ◌<◌, ◌≡◌, Bool, true, false, List, Option, Some, length, take, drop}
use Rattle.cbor.specs.Refusals.{ok}
use Rattle.cbor.specs.Widths.{Width}
use Rattle.cbor.specs.Items.{Kind, definite, string}
use Rattle.cbor.specs.Heads.{strings, major_number}
use Rattle.notation.specs.Indicators.{Indicator, indicator, chosen, choose}
use Rattle.notation.specs.Literals.{Content, hex_content, base64_content, encoded_literal}
use Rattle.notation.specs.Tokens.{literal, begins}
use Rattle.notation.specs.Cutting.{cut}
use Rattle.notation.specs.Reading.{marked}
use Rattle.literal_body.specs.declared.LiteralScan.{LiteralScan}
use Rattle.encoding.specs.ReadAnswers.{held_of, Tells, Wrote, Closes}
use Rattle.plain_string.specs.StringParts.{Quote}
use Rattle.leaf_answer.specs.LeafAnswers.{LeafTold}
use Rattle.leaf_answer.specs.declared.LeafRead.{LeafRead as LeafS}

-- whether a string begins with a byte
pub record IsQuote (b : ℕ) (t : Bool) : Type 0 where
  pub is : t ≡ true → Quote b

-- what the text of b64'..' stands for, or that of h'..'
unfoldable pub content_by : Bool → List ℕ → Content
content_by true = base64_content
content_by false = hex_content

-- such a literal begins at a place, and its text at another
pub record EncodedFrom (s : List ℕ) (place at : ℕ) (base64 : Bool) : Type 0 where
  pub is : cut (drop place (marked s)) ≡ encoded_literal (content_by base64) (drop at (marked s))
  pub ahead : place < at
  pub inside : at ≤ length s

pub record EncodedThere (s : List ℕ) (place at : ℕ) (base64 t : Bool) : Type 0 where
  pub is : t ≡ true → EncodedFrom s place at base64

-- a literal that holds c begins at a place, and next is behind its closing quote: it is a token with every indicator that fits
pub record LiteralAt (s : List ℕ) (place next : ℕ) (k : Kind) (c : List ℕ) : Type 0 where
  pub gives : (i : Indicator) (w : Width) (r : List ℕ) → indicator (drop next (marked s)) ≡ ok i r → choose i (length c) ≡ chosen w → cut (drop place (marked s)) ≡ ok (begins (literal k (definite w) c)) r
  pub short : place + length c < next

-- its content was written behind one byte of room
pub record ContentMade (s b b' : List ℕ) (place pos : ℕ) (k : Kind) (r : LiteralScan) : Type 0 where
  pub bytes : List ℕ
  pub is : LiteralAt s place r.next k bytes
  pub count : r.size ≡ length bytes
  pub wrote : Wrote b b' (pos + 1) bytes

pub record ContentTold (s b b' : List ℕ) (place pos : ℕ) (k : Kind) (r : Option LiteralScan) : Type 0 where
  pub same : length b' ≡ length b
  pub kept : take pos b' ≡ take pos b
  pub made : (c : LiteralScan) → r ≡ Some c → ContentMade s b b' place pos k c

-- a head hs, which has r bytes, was put before what stood behind one byte of room
pub record HeadBefore (b b' : List ℕ) (pos : ℕ) (hs : List ℕ) (size r : ℕ) : Type 0 where
  pub closes : Closes b b' pos hs size r
  pub same : length b' ≡ length b
  pub kept : take pos b' ≡ take pos b
  pub short : r ≤ 9

-- the head that the indicator asks for was put before a content that was read
pub record Headed (s b b' : List ℕ) (place pos major : ℕ) (binary : Bool) (r : Option LiteralScan) (q : LeafS) : Type 0 where
  pub is : (b₀ : List ℕ) (k : Kind) → ContentTold s b₀ b place pos k r → major ≡ major_number (strings k) → ((w : Width) (c : List ℕ) → Tells (held_of (string k w c)) binary (length c)) → LeafTold s b₀ b' place pos q
