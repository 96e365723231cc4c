-- The code of a well formed item is bytes.
use Prim.Native.Nat.{ℕ, zero, suc, ◌/◌, ◌%◌, ◌≤◌}
use native.Mathlib.Omega.{arith}
use mathlib.Core.List.{List, [], ◌∷◌, ◌++◌}
use lib.ListN.{length}
use Rattle.cbor.specs.Widths.{Width, argument_bytes, limit, shortest, big_endian}
use Rattle.cbor.specs.Items.{Kind, Size, definite, indefinite, Chunk, Item, int, string, chunked, array, map, tag, simple, Items, none, more, Pairs, none₂, more₂, count, count₂}
use Rattle.cbor.specs.Heads.{Major, integers, strings, arrays, maps, tags, simples, initial, head}
use Rattle.cbor.specs.Encode.{encode_string, opening_head, closing_break, enclosed, encode_chunks, encode, encode_all, encode_all₂}
use Rattle.cbor.specs.Valid.{Bytes, ValidString, ValidChunks, Fits, Valid, ValidAll, ValidAll₂}
use Rattle.cbor.proofs.Heads.{major-most, information-most}
use Rattle.cbor.proofs.DecodeEncode.{shortest-simple}

pub bytes-append : (a b : List ℕ) → Bytes a → Bytes b → Bytes (a ++ b)
unfolding Bytes
bytes-append [] b u v = v
bytes-append (x ∷ a) b u v = (u.0, bytes-append a b u.1 v)

-- HEADS

pub bytes_big : (k n : ℕ) → Bytes (big_endian k n)
unfolding Bytes big_endian
bytes_big zero n = tt
bytes_big (suc k) n = bytes-append (big_endian k (n / 256)) ((n % 256) ∷ []) (bytes_big k (n / 256)) (omega arith, tt)

pub bytes-head : (m : Major) (w : Width) (n : ℕ) → n ≤ limit w → Bytes (head m w n)
unfolding Bytes head initial
bytes-head m w n h = (omega (arith, major-most m, information-most w n h), bytes_big (argument_bytes w) n)

bytes_opening : (m : Major) (z : Size) (n : ℕ) → Fits z n → Bytes (opening_head m z n)
unfolding Bytes opening_head initial Fits
bytes_opening m (definite w) n h = bytes-head m w n h
bytes_opening m indefinite n h = (omega (arith, major-most m), tt)

bytes_closing : (z : Size) → Bytes (closing_break z)
unfolding Bytes closing_break
bytes_closing (definite w) = tt
bytes_closing indefinite = (omega arith, tt)

bytes-enclosed : (m : Major) (z : Size) (n : ℕ) (b : List ℕ) → Fits z n → Bytes b → Bytes (enclosed m z n b)
unfolding enclosed
bytes-enclosed m z n b h u = bytes-append (opening_head m z n) (b ++ closing_break z) (bytes_opening m z n h) (bytes-append b (closing_break z) u (bytes_closing z))

-- STRINGS

bytes-string : (k : Kind) (w : Width) (b : List ℕ) → ValidString k w b → Bytes (encode_string k w b)
unfolding encode_string
bytes-string k w b v = bytes-append (head (strings k) w (length b)) b (bytes-head (strings k) w (length b) v.fit) v.bytes

bytes-chunks : (k : Kind) (cs : List Chunk) → ValidChunks k cs → Bytes (encode_chunks k cs)
unfolding Bytes encode_chunks ValidChunks
bytes-chunks k [] v = tt
bytes-chunks k (c ∷ cs) v =
    bytes-append (encode_string k c.width c.content) (encode_chunks k cs) (bytes-string k c.width c.content v.0) (bytes-chunks k cs v.1)

-- ITEMS

mutual
  unfolding Bytes Fits Valid ValidAll ValidAll₂ encode encode_all encode_all₂

  pub encode-bytes : (x : Item) → Valid x → Bytes (encode x)
  encode-bytes (int g w n) v = bytes-head (integers g) w n v
  encode-bytes (string k w b) v = bytes-string k w b v
  encode-bytes (chunked k cs) v = bytes-enclosed (strings k) indefinite 0 (encode_chunks k cs) tt (bytes-chunks k cs v)
  encode-bytes (array z xs) v = bytes-enclosed arrays z (count xs) (encode_all xs) v.0 (encode-all-bytes xs v.1)
  encode-bytes (map z ps) v = bytes-enclosed maps z (count₂ ps) (encode_all₂ ps) v.0 (encode-pairs-bytes ps v.1)
  encode-bytes (tag w n x) v = bytes-append (head tags w n) (encode x) (bytes-head tags w n v.0) (encode-bytes x v.2)
  encode-bytes (simple n) v = bytes-head simples (shortest n) n (shortest-simple n v).fit

  pub encode-all-bytes : (xs : Items) → ValidAll xs → Bytes (encode_all xs)
  encode-all-bytes none v = tt
  encode-all-bytes (more x xs) v = bytes-append (encode x) (encode_all xs) (encode-bytes x v.0) (encode-all-bytes xs v.1)

  pub encode-pairs-bytes : (ps : Pairs) → ValidAll₂ ps → Bytes (encode_all₂ ps)
  encode-pairs-bytes none₂ v = tt
  encode-pairs-bytes (more₂ k x ps) v =
      bytes-append (encode k ++ encode x) (encode_all₂ ps) (bytes-append (encode k) (encode x) (encode-bytes k v.0) (encode-bytes x v.1)) (encode-pairs-bytes ps v.2)
