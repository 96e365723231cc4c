-- Of the code: what is written, and what the code has for the parts of a head.
use Rattle.std.specs.Prelude.{ℕ, ◌^◌, ◌<◌, ◌≡◌, Bool, true, false, List, [], ◌∷◌, ◌++◌, eqb, length}
use Rattle.cbor.specs.Ascii.{ascii}
use Rattle.memory.specs.Buffer.{clipped}
use Rattle.cbor.specs.Widths.{Width, w0, w1, w2, w4, w8}
use Rattle.cbor.specs.Items.{Size, definite, indefinite}
use Rattle.memory.specs.Sums.{capped}
use Rattle.notation.specs.Words.{simple_word}
use Rattle.notation.specs.Printing.{decimal_of, hex_of, escaped_of}

-- from b to b': ws was written from pos on, as far as the buffer reaches. r is the place behind all of it
pub record Prints (b b' : List ℕ) (pos : ℕ) (ws : List ℕ) (r : ℕ) : Type 0 where
  pub same : length b' ≡ length b
  pub short : length b < 2 ^ 64
  pub next : r ≡ capped pos (length ws)
  pub is : b' ≡ clipped b pos ws

-- the bytes of a string, as they stand between its quotes
unfoldable pub content_of : Bool → List ℕ → List ℕ
content_of true b = escaped_of b
content_of false b = hex_of b

-- BY NUMBERS: what the code has for a width, a size, a sign, a kind

-- the width that additional information stands for
unfoldable pub width_by : ℕ → Width
width_by i = elim (eqb i 24) [ true ↦ w1 | false ↦ elim (eqb i 25) [ true ↦ w2 | false ↦ elim (eqb i 26) [ true ↦ w4 | false ↦ elim (eqb i 27) [ true ↦ w8 | false ↦ w0 ] ] ] ]

unfoldable pub size_by : ℕ → Size
size_by i = elim (eqb i 31) [ true ↦ indefinite | false ↦ definite (width_by i) ]

unfoldable pub quote_of : Bool → ℕ
quote_of true = 0x22
quote_of false = 0x27

unfoldable pub open_quote : Bool → List ℕ
open_quote true = 0x22 ∷ []
open_quote false = ascii "h'"

unfoldable pub other_simple : ℕ → List ℕ
other_simple n = simple_word ++ (0x28 ∷ (decimal_of n ++ 0x29 ∷ []))
