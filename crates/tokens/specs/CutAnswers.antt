-- Of the code: what the code that cuts strings and signs answers. s is a text.
use Rattle.std.specs.Prelude.{ℕ, ◌≤◌, ◌<◌, ◌≡◌, true, false, List, eqb, length, drop}
use Rattle.cbor.specs.Items.{Kind, byte_string, text_string}
use Rattle.notation.specs.Indicators.{Indicator}
use Rattle.notation.specs.Literals.{Content, hex_content, base64_content, literal_token, quoted_token}
use Rattle.notation.specs.Reading.{marked}
use Rattle.token.specs.TokenAnswers.{indicator_number, Spelled, Says}
use Rattle.numbers.specs.NumberAnswers.{Indicated}
use Rattle.numbers.specs.declared.indicator.Mark.{Mark}
use Rattle.token.specs.declared.Token.{Token as Cut}

-- STRINGS, by their form
unfoldable pub quote_kind : ℕ → Kind
quote_kind form = elim (eqb form 0) [ true ↦ text_string | false ↦ byte_string ]

unfoldable pub quote_byte : ℕ → ℕ
quote_byte form = elim (eqb form 0) [ true ↦ 0x22 | false ↦ 0x27 ]

unfoldable pub literal_content : ℕ → List ℕ → Content
literal_content form l = elim (eqb form 2) [ true ↦ hex_content l | false ↦ base64_content l ]

-- where a literal of a form may stand
pub record QuotedAt (s : List ℕ) (place form : ℕ) : Type 0 where
  pub inside : place < length s
  pub quoted : form ≤ 1

pub record EncodedAt (s : List ℕ) (at form : ℕ) : Type 0 where
  pub inside : at ≤ length s
  pub encoded : 2 ≤ form

-- b is spelled in the text s, and its literal ends before next
pub record Spells (s : List ℕ) (form start stop next : ℕ) (b : List ℕ) : Type 0 where
  pub is : Spelled s form start stop b
  pub inside : next ≤ length s

pub record Literally (form mark size start stop place next : ℕ) (t : Cut) : Type 0 where
  pub is : (s b : List ℕ) (i : Indicator) → size ≡ length b → mark ≡ indicator_number i → Spells s form start stop next b → Says s place t (literal_token (quote_kind form) b i (drop next (marked s)))

pub record Quotedly (form size start place : ℕ) (m : Mark) (t : Cut) : Type 0 where
  pub is : (s b : List ℕ) (at : ℕ) → size ≡ length b → (x : Indicated s at m) → Spells s form start 0 m.next b → Says s place t (quoted_token (quote_kind form) b x.ind (drop m.next (marked s)))
