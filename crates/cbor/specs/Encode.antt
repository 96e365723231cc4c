-- From the papers: the bytes of items (RFC 8949, section 3), every choice of width and length as the item has it.
use Rattle.std.specs.Prelude.{ℕ, List, [], ◌∷◌, ◌++◌, length}
use Rattle.cbor.specs.Widths.{Width, shortest}
use Rattle.cbor.specs.Items.{Size, definite, indefinite, Kind, Chunk, Item, int, string, chunked, array, map, tag, simple, Items, none, more, Pairs, none₂, more₂, count, count₂}
use Rattle.cbor.specs.Heads.{Major, integers, strings, arrays, maps, tags, simples, initial, head, break}

unfoldable pub encode_string : Kind → Width → List ℕ → List ℕ
encode_string k w b = head (strings k) w (length b) ++ b

-- a head for n elements before their bytes, or an open one, with a break behind them
unfoldable pub opening_head : Major → Size → ℕ → List ℕ
opening_head m (definite w) n = head m w n
opening_head m indefinite n = initial m 31 ∷ []

unfoldable pub closing_break : Size → List ℕ
closing_break (definite w) = []
closing_break indefinite = break ∷ []

unfoldable pub enclosed : Major → Size → ℕ → List ℕ → List ℕ
enclosed m z n b = opening_head m z n ++ (b ++ closing_break z)

unfoldable pub encode_chunks : Kind → List Chunk → List ℕ
encode_chunks k [] = []
encode_chunks k (c ∷ cs) = encode_string k c.width c.content ++ encode_chunks k cs

unfoldable mutual
  pub encode : Item → List ℕ
  encode (int g w n) = head (integers g) w n
  encode (string k w b) = encode_string k w b
  encode (chunked k cs) = enclosed (strings k) indefinite 0 (encode_chunks k cs)
  encode (array z xs) = enclosed arrays z (count xs) (encode_all xs)
  encode (map z ps) = enclosed maps z (count₂ ps) (encode_all₂ ps)
  encode (tag w n x) = head tags w n ++ encode x
  encode (simple n) = head simples (shortest n) n

  -- a CBOR sequence (RFC 8742), and the elements of an array
  pub encode_all : Items → List ℕ
  encode_all none = []
  encode_all (more x xs) = encode x ++ encode_all xs

  pub encode_all₂ : Pairs → List ℕ
  encode_all₂ none₂ = []
  encode_all₂ (more₂ k x ps) = (encode k ++ encode x) ++ encode_all₂ ps
