-- From the papers: what a token is to the form of a text.
use Rattle.std.specs.Prelude.{ℕ, List}
use Rattle.cbor.specs.Widths.{Width}
use Rattle.cbor.specs.Items.{Kind, Size, Item}
use Rattle.notation.specs.Indicators.{Indicator}

-- what opens a level: `[` and `{` with their indicator, a tag with its head, `<<`
pub data Opener : Type 0 where
  bracket brace : Indicator → Opener
  tagging : Width → ℕ → Opener
  embedding : Opener

-- what an item begins with: a whole item; a quoted, h or b64 literal, which may be a chunk; `(_`; or what opens a level
pub data Beginning : Type 0 where
  leaf : Item → Beginning
  literal : Kind → Size → List ℕ → Beginning
  chunking : Beginning
  opens : Opener → Beginning

-- what a closing token closes; the end of the text closes the text
pub data Shape : Type 0 where
  square curly round angle whole : Shape

pub data Token : Type 0 where
  begins : Beginning → Token
  closes : Shape → Indicator → Token
  a_comma a_colon : Token
