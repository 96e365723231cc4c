-- Of the code: what the readers of strings say of their parts. s is a text; the definitions read it with its end mark.
use Rattle.std.specs.Prelude.{ℕ, ◌+◌, ◌*◌, ◌≤◌, ◌<◌, ◌≡◌, true, false, List, ◌∷◌, ◌++◌, eqb, length, take, drop, get_or}
use Rattle.cbor.specs.Widths.{Width}
use Rattle.cbor.specs.Items.{Kind, byte_string, text_string, string}
use Rattle.cbor.specs.Heads.{strings, major_number}
use Rattle.notation.specs.Literals.{stands_for, hex_content, quoted}
use Rattle.notation.specs.Cutting.{cut}
use Rattle.notation.specs.Reading.{marked}
use Rattle.hex_pairs.specs.PairAnswers.{HexDigits}
use Rattle.encoding.specs.ReadAnswers.{held_of, Tells, Wrote}
use Rattle.leaf_head.specs.HeadParts.{short_head}

-- n bytes of a text, not too many
pub record TextPart (s : List ℕ) (from n : ℕ) : Type 0 where
  pub inside : from + n ≤ length s
  pub most : n ≤ 0xffff_ffff

-- ws was written behind a head at pos
pub record WrittenBehind (b b' : List ℕ) (pos head : ℕ) (ws : List ℕ) : Type 0 where
  pub wrote : Wrote b b' (pos + head) ws
  pub kept : take pos b' ≡ take pos b

-- a string of the bytes ws was written, and has r bytes
pub record StringMade (b b' : List ℕ) (pos major : ℕ) (ws : List ℕ) (r : ℕ) : Type 0 where
  pub wrote : Wrote b b' pos (short_head major (length ws) ++ ws)
  pub sized : r ≡ length (short_head major (length ws) ++ ws)
  pub kept : take pos b' ≡ take pos b
  pub most : length ws ≤ 0xffff_ffff_ffff_ffff

-- the kind of a string by its quote
unfoldable pub quoted_kind : ℕ → Kind
quoted_kind q = elim (eqb q 0x22) [ true ↦ text_string | false ↦ byte_string ]

-- a string begins with q
pub record Quote (q : ℕ) : Type 0 where
  pub cuts : (r : List ℕ) → cut (q ∷ r) ≡ quoted (quoted_kind q) q r
  pub binary : (w : Width) (c : List ℕ) → Tells (held_of (string (quoted_kind q) w c)) (eqb q 0x27) (length c)

pub record StringMajor (q r : ℕ) : Type 0 where
  pub is : r ≡ major_number (strings (quoted_kind q))
  pub most : r ≤ 3

pub record QuotedAt (s : List ℕ) (place q : ℕ) : Type 0 where
  pub here : place < length s
  pub is : get_or s place 0 ≡ q
  pub quote : Quote q

-- the digits of n bytes, not too many
pub record HexPart (s : List ℕ) (from n : ℕ) : Type 0 where
  pub digits : HexDigits s from (from + 2 * n)
  pub most : n ≤ 0xffff_ffff

-- the n bytes that digits make were written behind a head
pub record PairsBehind (s : List ℕ) (from n : ℕ) (b b' : List ℕ) (pos head : ℕ) : Type 0 where
  pub bytes : List ℕ
  pub stand : hex_content (take (2 * n) (drop from s)) ≡ stands_for bytes
  pub count : length bytes ≡ n
  pub behind : WrittenBehind b b' pos head bytes

-- a string of the n bytes that digits make was written, and has r bytes
pub record HexMade (s : List ℕ) (from n : ℕ) (b b' : List ℕ) (pos r : ℕ) : Type 0 where
  pub bytes : List ℕ
  pub stand : hex_content (take (2 * n) (drop from s)) ≡ stands_for bytes
  pub count : length bytes ≡ n
  pub made : StringMade b b' pos 2 bytes r

pub record HexAt (s : List ℕ) (place : ℕ) : Type 0 where
  pub inside : place + 2 ≤ length s
  pub is : drop place (marked s) ≡ 0x68 ∷ 0x27 ∷ drop (place + 2) (marked s)
