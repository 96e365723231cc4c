-- From the papers: typed arrays (RFC 8746; document 01, Form: "Typed arrays").
use Rattle.std.specs.Prelude.{ℕ, ◌+◌, ◌/◌, ◌%◌, ◌^◌, List, [], ◌∷◌, Bool, true, false, ◌&&◌, leb, eqb, length}
use Rattle.cbor.specs.Items.{byte_string, text_string, Chunk, Item, int, string, chunked, array, map, tag, simple}

-- "With tag bits 010 f s e ll the size is 2 to the power f + ll"
unfoldable pub element_size : ℕ → ℕ
element_size n = 2 ^ (n / 16 % 2 + n % 4)

unfoldable pub chunks_length : List Chunk → ℕ
chunks_length [] = 0
chunks_length (c ∷ cs) = length c.content + chunks_length cs

-- "a byte string (chunked ones too, lengths added) whose length divides by the element size"
unfoldable pub divides : ℕ → Item → Bool
divides size (int g w n) = false
divides size (string byte_string w b) = eqb (length b % size) 0
divides size (string text_string w b) = false
divides size (chunked byte_string cs) = eqb (chunks_length cs % size) 0
divides size (chunked text_string cs) = false
divides size (array z xs) = false
divides size (map z ps) = false
divides size (tag w n x) = false
divides size (simple n) = false

-- "for tag 64 to 87 other than 76"; "Tag 76 is reserved and refused. Tags 88 to 95 carry no check", nor does any other
unfoldable pub is_typed_array : ℕ → Bool
is_typed_array n = leb 64 n && leb n 87

-- what is asked of the item, where the tag asks it
abbrev pub asked : ℕ → Bool → Bool
asked n b = elim (is_typed_array n) [ true ↦ elim (eqb n 76) [ true ↦ false | false ↦ b ] | false ↦ true ]

unfoldable pub may_tag : ℕ → Item → Bool
may_tag n x = asked n (divides (element_size n) x)
