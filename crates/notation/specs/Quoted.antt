-- From the papers: quoted strings: escapes (document 01, Tokens: `"..."`, `'...'`).
use Rattle.std.specs.Prelude.{ℕ, zero, suc, ◌+◌, ◌-◌, ◌*◌, ◌/◌, ◌%◌, List, [], ◌∷◌, ◌++◌, true, false, ◌&&◌, leb, ltb, eqb}
use Rattle.cbor.specs.Refusals.{Result, ok, bind, no_token}
use Rattle.cbor.specs.Utf8.{◌to◌, is_in}
use Rattle.notation.specs.Scanning.{fault}
use Rattle.notation.specs.Numbers.{digit_value, is_digit}

-- a code point in UTF-8 (RFC 3629, section 3)
unfoldable pub utf8_of : ℕ → List ℕ
utf8_of c =
    elim (ltb c 0x80) [
      | true ↦ c ∷ []
      | false ↦ elim (ltb c 0x800) [
        | true ↦ (0xc0 + c / 0x40) ∷ (0x80 + c % 0x40) ∷ []
        | false ↦ elim (ltb c 0x10000) [
          | true ↦ (0xe0 + c / 0x1000) ∷ (0x80 + c / 0x40 % 0x40) ∷ (0x80 + c % 0x40) ∷ []
          | false ↦ (0xf0 + c / 0x40000) ∷ (0x80 + c / 0x1000 % 0x40) ∷ (0x80 + c / 0x40 % 0x40) ∷ (0x80 + c % 0x40) ∷ []
        ]
      ]
    ]

-- whether a high surrogate came before, so that the low one must follow
pub data Before : Type 0 where
  no_surrogate : Before
  high_surrogate : ℕ → Before

-- Where in a quoted string: at a character; behind a backslash; in the digits behind `\u`, with how many are still to come and
-- what those read make; behind a high surrogate, which is the number.
pub data Quoting : Type 0 where
  character : Quoting
  escape : Before → Quoting
  unicode : ℕ → ℕ → Before → Quoting
  paired : ℕ → Quoting

-- what a byte does there: it stands for bytes, and the string goes on; it closes the string; it may not stand there
pub data Move : Type 0 where
  gives : List ℕ → Quoting → Move
  closed wrong : Move

pub record Escape : Type 0 where
  pub letter : ℕ
  pub byte : ℕ

-- `\\ \/ \b \f \n \r \t`
unfoldable pub escapes : List Escape
escapes =
    record { letter = 0x5c; byte = 0x5c }
    ∷ record { letter = 0x2f; byte = 0x2f }
    ∷ record { letter = 0x62; byte = 0x08 }
    ∷ record { letter = 0x66; byte = 0x0c }
    ∷ record { letter = 0x6e; byte = 0x0a }
    ∷ record { letter = 0x72; byte = 0x0d }
    ∷ record { letter = 0x74; byte = 0x09 }
    ∷ []

unfoldable pub escaped_in : List Escape → ℕ → Move
escaped_in [] b = wrong
escaped_in (e ∷ es) b = elim (eqb b e.letter) [ true ↦ gives (e.byte ∷ []) character | false ↦ escaped_in es b ]

-- the code unit behind `\u` is whole: "surrogates only in a right pair"
unfoldable pub whole_unit : Before → ℕ → Move
whole_unit no_surrogate c = elim (is_in (0xd800 to 0xdbff) c) [ true ↦ gives [] (paired c) | false ↦ elim (is_in (0xdc00 to 0xdfff) c) [ true ↦ wrong | false ↦ gives (utf8_of c) character ] ]
whole_unit (high_surrogate h) c = elim (is_in (0xdc00 to 0xdfff) c) [ true ↦ gives (utf8_of (0x10000 + (h - 0xd800) * 0x400 + (c - 0xdc00))) character | false ↦ wrong ]

unfoldable pub unit : ℕ → ℕ → Before → Move
unit zero c h = whole_unit h c
unit (suc k) c h = gives [] (unicode (suc k) c h)

-- q is the quote: 22 hex, or 27 hex
unfoldable pub move_at : ℕ → Quoting → ℕ → Move
move_at q character b =
    elim (eqb b q) [
      | true ↦ closed
      | false ↦ elim (eqb b 0x5c) [ true ↦ gives [] (escape no_surrogate) | false ↦ elim (leb 0x20 b && leb b 0xff) [ true ↦ gives (b ∷ []) character | false ↦ wrong ] ]
    ]
move_at q (escape no_surrogate) b =
    elim (eqb b q) [ true ↦ gives (q ∷ []) character | false ↦ elim (eqb b 0x75) [ true ↦ gives [] (unicode 4 0 no_surrogate) | false ↦ escaped_in escapes b ] ]
move_at q (escape (high_surrogate h)) b = elim (eqb b 0x75) [ true ↦ gives [] (unicode 4 0 (high_surrogate h)) | false ↦ wrong ]
move_at q (unicode k c h) b = elim (is_digit 16 b) [ true ↦ unit (k - 1) (c * 16 + digit_value b) h | false ↦ wrong ]
move_at q (paired h) b = elim (eqb b 0x5c) [ true ↦ gives [] (escape (high_surrogate h)) | false ↦ wrong ]

-- the content of a quoted string, up to its closing quote. 3: it does not end, or something may not stand in it
unfoldable pub unquote : ℕ → Quoting → List ℕ → Result (List ℕ)
unquote q k [] = fault no_token
unquote q k (b ∷ s) = elim (move_at q k b) [ gives w k' ↦ bind (unquote q k' s) (λ c r. ok (w ++ c) r) | closed ↦ ok [] s | wrong ↦ fault no_token ]
