-- From the papers: CBOR data items with their encoding (RFC 8949, section 3): the width of each head, definite or indefinite length,
-- chunks.
use Rattle.std.specs.Prelude.{ℕ, suc, max, List}
use Rattle.cbor.specs.Widths.{Width}

-- an unsigned integer is its argument n, a negative one is -1 - n
pub data Sign : Type 0 where
  unsigned negative : Sign

pub data Kind : Type 0 where
  byte_string text_string : Kind

-- how the number of elements of an array or a map is given: by the head, or by a break at the end
pub data Size : Type 0 where
  definite : Width → Size
  indefinite : Size

-- a string inside a chunked string, with the width of its head
pub record Chunk : Type 0 where
  pub width : Width
  pub content : List ℕ

mutual
  pub data Item : Type 0 where
    int : Sign → Width → ℕ → Item
    string : Kind → Width → List ℕ → Item
    chunked : Kind → List Chunk → Item
    array : Size → Items → Item
    map : Size → Pairs → Item
    tag : Width → ℕ → Item → Item
    simple : ℕ → Item

  pub data Items : Type 0 where
    none : Items
    more : Item → Items → Items

  -- the key and the value of each pair of a map
  pub data Pairs : Type 0 where
    none₂ : Pairs
    more₂ : Item → Item → Pairs → Pairs

unfoldable pub count : Items → ℕ
count none = 0
count (more x xs) = suc (count xs)

-- a map's argument is the number of its pairs, not doubled
unfoldable pub count₂ : Pairs → ℕ
count₂ none₂ = 0
count₂ (more₂ k x ps) = suc (count₂ ps)

-- "Each array, map, tag and `<<` is one level; strings and chunked strings are none." (document 01, Sizes; in bytes `<<` is a string)
unfoldable mutual
  pub levels : Item → ℕ
  levels (int g w n) = 0
  levels (string k w b) = 0
  levels (chunked k cs) = 0
  levels (array z xs) = suc (levels_all xs)
  levels (map z ps) = suc (levels_all₂ ps)
  levels (tag w n x) = suc (levels x)
  levels (simple n) = 0

  pub levels_all : Items → ℕ
  levels_all none = 0
  levels_all (more x xs) = max (levels x) (levels_all xs)

  pub levels_all₂ : Pairs → ℕ
  levels_all₂ none₂ = 0
  levels_all₂ (more₂ k x ps) = max (max (levels k) (levels x)) (levels_all₂ ps)
