-- From the papers: the class of each byte (document 01, Tokens: "The class of each of the 256 byte values stands in one table").
use Rattle.std.specs.Prelude.{ℕ, List, [], ◌∷◌, Bool, true, false, ◌||◌, eqb}
use Rattle.cbor.specs.Utf8.{Range, ◌to◌, is_in}

-- `end_mark` is the class of 256, which is no byte and stands behind the text; `other` begins no token
pub data Class : Type 0 where
  other blank digit letter underscore minus dot quote apostrophe slash hash comma colon : Class
  open_paren close_paren open_bracket close_bracket open_brace close_brace less greater end_mark : Class

unfoldable pub class_number : Class → ℕ
class_number other = 0
class_number blank = 1
class_number digit = 2
class_number letter = 3
class_number underscore = 4
class_number minus = 5
class_number dot = 6
class_number quote = 7
class_number apostrophe = 8
class_number slash = 9
class_number hash = 10
class_number comma = 11
class_number colon = 12
class_number open_paren = 13
class_number close_paren = 14
class_number open_bracket = 15
class_number close_bracket = 16
class_number open_brace = 17
class_number close_brace = 18
class_number less = 19
class_number greater = 20
class_number end_mark = 21

pub record ClassRow : Type 0 where
  pub bytes : Range
  pub class : Class

infixl 50 ◌are◌
abbrev pub ◌are◌ : Range → Class → ClassRow
g are c = record { bytes = g; class = c }

-- every byte that is in no row is `other`
unfoldable pub class_rows : List ClassRow
class_rows =
    (0x09 to 0x0a are blank)
    ∷ (0x0d to 0x0d are blank)
    ∷ (0x20 to 0x20 are blank)
    ∷ (0x22 to 0x22 are quote)
    ∷ (0x23 to 0x23 are hash)
    ∷ (0x27 to 0x27 are apostrophe)
    ∷ (0x28 to 0x28 are open_paren)
    ∷ (0x29 to 0x29 are close_paren)
    ∷ (0x2c to 0x2c are comma)
    ∷ (0x2d to 0x2d are minus)
    ∷ (0x2e to 0x2e are dot)
    ∷ (0x2f to 0x2f are slash)
    ∷ (0x30 to 0x39 are digit)
    ∷ (0x3a to 0x3a are colon)
    ∷ (0x3c to 0x3c are less)
    ∷ (0x3e to 0x3e are greater)
    ∷ (0x41 to 0x5a are letter)
    ∷ (0x5b to 0x5b are open_bracket)
    ∷ (0x5d to 0x5d are close_bracket)
    ∷ (0x5f to 0x5f are underscore)
    ∷ (0x61 to 0x7a are letter)
    ∷ (0x7b to 0x7b are open_brace)
    ∷ (0x7d to 0x7d are close_brace)
    ∷ (256 to 256 are end_mark)
    ∷ []

unfoldable pub class_in : List ClassRow → ℕ → Class
class_in [] b = other
class_in (w ∷ ws) b = elim (is_in w.bytes b) [ true ↦ w.class | false ↦ class_in ws b ]

unfoldable pub class_of : ℕ → Class
class_of b = class_in class_rows b

unfoldable pub is : Class → ℕ → Bool
is c b = eqb (class_number c) (class_number (class_of b))

-- a letter or a digit: what words and indicators are made of
unfoldable pub is_word : ℕ → Bool
is_word b = is letter b || is digit b

-- what can stand in a token behind its first byte, unless the token says itself where it ends
unfoldable pub goes_on : ℕ → Bool
goes_on b = is_word b || (is underscore b || (is dot b || (is open_paren b || is apostrophe b)))
