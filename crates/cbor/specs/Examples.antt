-- Examples of the papers, computed: what RFC 8949 and document 01 say of bytes, a row for each rule that a reader would look for. One
-- table, one statement; crates/vectors runs many more.
use Rattle.std.specs.Prelude.{ℕ, ◌-◌, List, [], ◌∷◌, ◌≡◌, refl, length, replicate}
use mathlib.Core.List as L
use Rattle.cbor.specs.Refusals.{Result, ok, refuse, bind}
use Rattle.cbor.specs.Widths.{w0, w1, w2, argument_bytes, information, big_endian, value_from}
use Rattle.cbor.specs.Items.{unsigned, byte_string, text_string, indefinite, Item, int, string, chunked, array, map, tag, Items, none, more, none₂, more₂}
use Rattle.cbor.specs.Heads.{major_number, major_of, initial, head, information_of, is_float, is_allowed, is_indefinite, taking, started, argued, head_by, next_head}
use Rattle.cbor.specs.Encode.{encode_string, opening_head, closing_break, enclosed, encode_chunks, encode, encode_all}
use Rattle.cbor.specs.Utf8.{is_in, rows, follow_in, follow, are_in, sequence_by, first_bad_from, first_bad, is_utf8}
use Rattle.cbor.specs.TypedArrays.{element_size, chunks_length, divides, is_typed_array, may_tag}
use Rattle.cbor.specs.Valid.{is_text}
use Rattle.cbor.specs.Decode.{step_at, several_by, several_within, several, content_at, chunk_by, chunk_at, entry_at, extent, tagged, elements, entries, chunks_of, item_by, item_with, item, decode}
use Rattle.cbor.specs.Paths.{Spot, Found, found, nowhere, within, nth, nth₂, child, onward, descend, locate, start, end}

-- what is asked, and what is answered
pub data ByteQuestion : Type 0 where
  decoding checking_utf8 : List ℕ → ByteQuestion
  looking : List ℕ → List ℕ → ByteQuestion

pub data ByteAnswer : Type 0 where
  decodes_to : Items → List ℕ → ByteAnswer
  refused_at : ℕ → ℕ → ByteAnswer
  first_bad_at : ℕ → ByteAnswer
  part : ℕ → ℕ → ByteAnswer
  fails_at : ℕ → ByteAnswer

-- accepted items are encoded again
unfoldable pub decoded : ℕ → Result Items → ByteAnswer
decoded size (ok xs r) = decodes_to xs (encode_all xs)
decoded size (refuse n left) = refused_at n (size - left)

unfoldable pub spotted : Found Spot → ByteAnswer
spotted (found z) = part (start z) (end z)
spotted (nowhere i) = fails_at i

unfoldable pub looked : List ℕ → ℕ → Result Items → ByteAnswer
looked p size (ok xs r) = spotted (locate p xs)
looked p size (refuse n left) = refused_at n (size - left)

unfoldable pub byte_answer_to : ByteQuestion → ByteAnswer
byte_answer_to (decoding s) = decoded (length s) (decode s)
byte_answer_to (checking_utf8 s) = first_bad_at (first_bad s)
byte_answer_to (looking p s) = looked p (length s) (decode s)

pub record ByteExample : Type 0 where
  pub question : ByteQuestion
  pub expected : ByteAnswer

-- shorthands
accepts : List ℕ → Item → ByteExample
accepts s x = record { question = decoding s; expected = decodes_to (more x none) s }

refuses : List ℕ → ℕ → ℕ → ByteExample
refuses s n place = record { question = decoding s; expected = refused_at n place }

utf8 : List ℕ → ℕ → ByteExample
utf8 s place = record { question = checking_utf8 s; expected = first_bad_at place }

finds : List ℕ → List ℕ → ByteAnswer → ByteExample
finds p s a = record { question = looking p s; expected = a }

pub byte_examples : List ByteExample
byte_examples =
    -- RFC 8949, appendix A: {_ "a": 1, "b": [_ 2, 3]}
    accepts (0xbf ∷ 0x61 ∷ 0x61 ∷ 1 ∷ 0x61 ∷ 0x62 ∷ 0x9f ∷ 2 ∷ 3 ∷ 0xff ∷ 0xff ∷ [])
    (map indefinite (more₂ (string text_string w0 (0x61 ∷ [])) (int unsigned w0 1) (more₂ (string text_string w0 (0x62 ∷ [])) (array indefinite (more (int unsigned w0 2) (more (int unsigned w0 3) none))) none₂)))
    -- a head that is not the shortest
    ∷ accepts (0x19 ∷ 0x00 ∷ 0x05 ∷ []) (int unsigned w2 5)
    -- the lengths of chunks are added for a typed array
    ∷ accepts (0xd8 ∷ 0x41 ∷ 0x5f ∷ 0x41 ∷ 1 ∷ 0x41 ∷ 2 ∷ 0xff ∷ [])
    (tag w1 65 (chunked byte_string (record { width = w0; content = 1 ∷ [] } ∷ record { width = w0; content = 2 ∷ [] } ∷ [])))
    -- each text chunk is UTF-8 by itself
    ∷ refuses (0x7f ∷ 0x61 ∷ 0xc3 ∷ 0x61 ∷ 0xbc ∷ 0xff ∷ []) 2 1
    -- a float, whether or not all of it is there
    ∷ refuses (0xf9 ∷ []) 6 0
    -- 17 levels
    ∷ refuses (replicate 17 0x81) 10 16
    -- the elements of tag 83 have 16 bytes
    ∷ refuses (0xd8 ∷ 0x53 ∷ 0x48 ∷ replicate 8 0) 13 0
    -- a map's count is not doubled: here it would wrap
    ∷ refuses (0xbb ∷ 0x80 ∷ replicate 7 0) 15 9
    -- a break in the middle of a pair
    ∷ refuses (0xbf ∷ 0x01 ∷ 0xff ∷ []) 16 2
    -- a path goes to the values of a map, and into no tag
    ∷ finds (1 ∷ 0 ∷ 1 ∷ []) (0x00 ∷ 0xbf ∷ 0x01 ∷ 0x82 ∷ 0x05 ∷ 0x18 ∷ 0x06 ∷ 0xff ∷ []) (part 5 7)
    ∷ finds (0 ∷ 0 ∷ []) (0xc1 ∷ 0x81 ∷ 0x00 ∷ []) (fails_at 1)
    -- RFC 3629: overlong, surrogate
    ∷ utf8 (0x61 ∷ 0xc0 ∷ 0x80 ∷ []) 1
    ∷ utf8 (0xed ∷ 0xa0 ∷ 0x80 ∷ []) 0
    ∷ []

pub byte_examples_hold : L.map (λ (e : ByteExample). byte_answer_to e.question) byte_examples ≡ L.map (λ (e : ByteExample). e.expected) byte_examples
unfolding byte_examples accepts refuses utf8 finds byte_answer_to decoded looked spotted bind argument_bytes information big_endian value_from major_number major_of initial head information_of is_float is_allowed is_indefinite taking started argued head_by next_head encode_string opening_head closing_break enclosed encode_chunks encode is_in rows follow_in follow are_in sequence_by first_bad_from first_bad is_utf8 element_size chunks_length divides is_typed_array may_tag is_text step_at several_by several_within several content_at chunk_by chunk_at entry_at extent tagged elements entries chunks_of item_by item_with item decode within nth nth₂ child onward descend locate start end
byte_examples_hold = refl
