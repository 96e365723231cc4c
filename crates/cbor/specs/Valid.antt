-- From the papers: which items have an encoding that a reader of bytes accepts: every argument fits its width, strings are bytes, text
-- strings are UTF-8, typed arrays are whole, simple values are in range.
use Rattle.std.specs.Prelude.{ℕ, ◌<◌, ◌≤◌, ◌≡◌, List, [], ◌∷◌, Bool, true, ◌&&◌, ◌||◌, leb, length}
use Rattle.cbor.specs.Widths.{Width, limit}
use Rattle.cbor.specs.Items.{Kind, byte_string, text_string, Size, definite, indefinite, Chunk, Item, int, string, chunked, array, map, tag, simple, Items, none, more, Pairs, none₂, more₂, count, count₂}
use Rattle.cbor.specs.Utf8.{is_utf8}
use Rattle.cbor.specs.TypedArrays.{may_tag}

unfoldable pub Bytes : List ℕ → Type 0
Bytes [] = Unit
Bytes (b ∷ s) = (b < 256) × Bytes s

-- the content of a string, or of a chunk by itself
unfoldable pub is_text : Kind → List ℕ → Bool
is_text byte_string b = true
is_text text_string b = is_utf8 b

pub record ValidString (k : Kind) (w : Width) (b : List ℕ) : Type 0 where
  pub fit : length b ≤ limit w
  pub bytes : Bytes b
  pub good : is_text k b ≡ true

unfoldable pub ValidChunks : Kind → List Chunk → Type 0
ValidChunks k [] = Unit
ValidChunks k (c ∷ cs) = ValidString k c.width c.content × ValidChunks k cs

unfoldable pub Fits : Size → ℕ → Type 0
Fits (definite w) n = n ≤ limit w
Fits indefinite n = Unit

-- 0 to 23 or 32 to 255
unfoldable pub is_simple : ℕ → Bool
is_simple n = leb n 23 || (leb 32 n && leb n 255)

unfoldable mutual
  pub Valid : Item → Type 0
  Valid (int g w n) = n ≤ limit w
  Valid (string k w b) = ValidString k w b
  Valid (chunked k cs) = ValidChunks k cs
  Valid (array z xs) = Fits z (count xs) × ValidAll xs
  Valid (map z ps) = Fits z (count₂ ps) × ValidAll₂ ps
  Valid (tag w n x) = (n ≤ limit w) × (may_tag n x ≡ true) × Valid x
  Valid (simple n) = is_simple n ≡ true

  pub ValidAll : Items → Type 0
  ValidAll none = Unit
  ValidAll (more x xs) = Valid x × ValidAll xs

  pub ValidAll₂ : Pairs → Type 0
  ValidAll₂ none₂ = Unit
  ValidAll₂ (more₂ k x ps) = Valid k × Valid x × ValidAll₂ ps
