-- The text of an item is at most 40 times as long as its bytes, with what separates it from others.
-- Assumes nothing.
use mathlib.Core.Bool.{Bool, true, false, ◌||◌}
use mathlib.Core.List.{List, [], ◌∷◌, ◌++◌}
use Prim.Native.Nat.{ℕ, suc, ◌+◌, ◌-◌, ◌*◌, ◌^◌, ◌≤◌, ◌<◌}
use native.Mathlib.Omega.{arith}
use lib.Dec.{eqb, ltb}
use lib.ListN.{length, length-append}
use Rattle.cbor.specs.Ascii.{ascii}
use Rattle.cbor.specs.Widths.{Width, w0, w1, w2, w4, w8, argument_bytes, limit, shortest}
use Rattle.cbor.specs.Items.{Sign, unsigned, negative, Kind, byte_string, text_string, Size, definite, indefinite, Chunk, Item, int, string, chunked, array, map, tag, simple, Items, none, more, Pairs, none₂, more₂, count, count₂}
use Rattle.cbor.specs.Heads.{Major, head, integers, strings, arrays, maps, tags, simples}
use Rattle.cbor.specs.Encode.{encode_string, opening_head, enclosed, encode_chunks, encode, encode_all, encode_all₂}
use Rattle.cbor.specs.Valid.{Valid, ValidAll, ValidAll₂}
use Rattle.cbor.proofs.DecodeEncode.{shortest-simple}
use Rattle.notation.specs.Words.{false_word, true_word, null_word, undefined_word, simple_word}
use Rattle.notation.specs.Printing.{decimal_of, hex_byte_of, escape_of, escaped_of, width_name, indicator_of, print_string, print_chunks, print_chunked, blank_behind, size_of, print_simple, print_int, print_item, print_all, print_rest, print_all₂, print_rest₂}
use Rattle.decimal_output.proofs.DecimalCode.{decimal-length}
use Rattle.hex_output.proofs.HexCode.{hex-length}

-- NUMBERS AND STRINGS

limit-below : (w : Width) → suc (limit w) < 10 ^ 20
unfolding limit
limit-below w0 = omega arith
limit-below w1 = omega arith
limit-below w2 = omega arith
limit-below w4 = omega arith
limit-below w8 = omega arith

pub indicator-length : (w : Width) (n : ℕ) → length (indicator_of w n) ≤ 2
unfolding indicator_of
indicator-length w n = go (eqb (argument_bytes w) (argument_bytes (shortest n)))
  where
    go : (t : Bool) → length {A = ℕ} (elim t [ true ↦ [] | false ↦ 0x5f ∷ width_name w ∷ [] ]) ≤ 2
    go true = omega arith
    go false = omega arith

pub size-length : (z : Size) (n : ℕ) → length (size_of z n) ≤ 3
unfolding size_of indicator_of blank_behind
size-length indefinite n = omega arith
size-length (definite w) n = go (eqb (argument_bytes w) (argument_bytes (shortest n)))
  where
    go : (t : Bool) → length (blank_behind (elim t [ true ↦ [] | false ↦ 0x5f ∷ width_name w ∷ [] ])) ≤ 3
    go true = omega arith
    go false = omega arith

escape-length : (x : ℕ) → length (escape_of x) ≤ 6
unfolding escape_of hex_byte_of
escape-length x = go (eqb x 0x22 || eqb x 0x5c) (ltb x 0x20)
  where
    go : (s t : Bool) → length {A = ℕ} (elim s [ true ↦ 0x5c ∷ x ∷ [] | false ↦ elim t [ true ↦ ascii "\\u00" ++ hex_byte_of x | false ↦ x ∷ [] ] ]) ≤ 6
    go true t = omega arith
    go false true = omega arith
    go false false = omega arith

escaped_length : (b : List ℕ) → length (escaped_of b) ≤ 6 * length b
unfolding escaped_of
escaped_length [] = omega arith
escaped_length (x ∷ b) = let i = escaped_length b in let j = escape-length x in simp length-append (omega arith)

string-length : (k : Kind) (w : Width) (b : List ℕ) → length (print_string k w b) ≤ 6 + 6 * length b
unfolding print_string
string-length byte_string w b = let i = hex-length b in let j = indicator-length w (length b) in simp length-append (omega arith)
string-length text_string w b = let i = escaped_length b in let j = indicator-length w (length b) in simp length-append (omega arith)

encoded-length : (k : Kind) (w : Width) (b : List ℕ) → 1 + length b ≤ length (encode_string k w b)
unfolding encode_string head
encoded-length k w b = simp length-append (omega arith)

chunks-length : (k : Kind) (cs : List Chunk) → length (print_chunks k cs) ≤ 40 * length (encode_chunks k cs)
unfolding print_chunks encode_chunks
chunks-length k [] = omega arith
chunks-length k (c ∷ cs) =
    let i = chunks-length k cs in
    let j = string-length k c.width c.content in
    let e = encoded-length k c.width c.content in
    simp length-append (omega arith)

chunked-length : (k : Kind) (cs : List Chunk) → length (print_chunked k cs) + 2 ≤ 40 + 40 * length (encode_chunks k cs)
unfolding print_chunked encode_chunks
chunked-length byte_string [] = omega arith
chunked-length text_string [] = omega arith
chunked-length byte_string (c ∷ cs) =
    let i = chunks-length byte_string cs in
    let j = string-length byte_string c.width c.content in
    let e = encoded-length byte_string c.width c.content in
    simp length-append (omega arith)
chunked-length text_string (c ∷ cs) =
    let i = chunks-length text_string cs in
    let j = string-length text_string c.width c.content in
    let e = encoded-length text_string c.width c.content in
    simp length-append (omega arith)

-- HEADS

head-length : (m : Major) (w : Width) (n : ℕ) → 1 ≤ length (head m w n)
unfolding head
head-length m w n = omega arith

enclosed-length : (m : Major) (z : Size) (n : ℕ) (b : List ℕ) → 1 + length b ≤ length (enclosed m z n b)
unfolding enclosed opening_head
enclosed-length m (definite w) n b = let h = head-length m w n in simp length-append (omega arith)
enclosed-length m indefinite n b = simp length-append (omega arith)

number-length : (w : Width) (n : ℕ) → n ≤ limit w → length (decimal_of n) ≤ 20
number-length w n h = decimal-length 19 n (omega (arith, limit-below w))

int-length : (g : Sign) (w : Width) (n : ℕ) → n ≤ limit w → length (print_int g w n) ≤ 23
unfolding print_int
int-length unsigned w n h =
    let i = number-length w n h in
    let j = indicator-length w n in
    simp length-append (omega arith)
int-length negative w n h =
    let i = decimal-length 19 (suc n) (omega (arith, limit-below w)) in
    let j = indicator-length w n in
    simp length-append (omega arith)

simple-length : (n : ℕ) → n ≤ limit (shortest n) → length (print_simple n) ≤ 28
unfolding print_simple
simple-length n h = go (eqb n 20) (eqb n 21) (eqb n 22) (eqb n 23)
  where
    go : (a b c d : Bool) → length {A = ℕ} (elim a [ true ↦ false_word | false ↦ elim b [ true ↦ true_word | false ↦ elim c [ true ↦ null_word | false ↦ elim d [ true ↦ undefined_word | false ↦ simple_word ++ (0x28 ∷ (decimal_of n ++ 0x29 ∷ [])) ] ] ] ]) ≤ 28
    go true b c d = omega arith
    go false true c d = omega arith
    go false false true d = omega arith
    go false false false true = omega arith
    go false false false false = let i = number-length (shortest n) n h in simp length-append (omega arith)

-- ITEMS

mutual
  unfolding print_item print_all print_rest print_all₂ print_rest₂ encode encode_all encode_all₂ Valid ValidAll ValidAll₂

  item-length : (x : Item) → Valid x → length (print_item x) + 2 ≤ 40 * length (encode x)
  item-length (int g w n) v = let i = int-length g w n v in let h = head-length (integers g) w n in omega arith
  item-length (string k w b) v = let i = string-length k w b in let h = encoded-length k w b in omega arith
  item-length (chunked k cs) v = let i = chunked-length k cs in let h = enclosed-length (strings k) indefinite 0 (encode_chunks k cs) in omega arith
  item-length (array z xs) v =
      let i = all-length (ascii ", ") xs v.1 (omega arith) in
      let h = enclosed-length arrays z (count xs) (encode_all xs) in
      let j = size-length z (count xs) in
      simp length-append (omega arith)
  item-length (map z ps) v =
      let i = all_length₂ ps v.1 in
      let h = enclosed-length maps z (count₂ ps) (encode_all₂ ps) in
      let j = size-length z (count₂ ps) in
      simp length-append (omega arith)
  item-length (tag w n x) v =
      let i = item-length x v.2 in
      let h = head-length tags w n in
      let j = number-length w n v.0 in
      let k = indicator-length w n in
      simp length-append (omega arith)
  item-length (simple n) v = let i = simple-length n (shortest-simple n v).fit in let h = head-length simples (shortest n) n in omega arith

  pub all-length : (sep : List ℕ) (xs : Items) → ValidAll xs → length sep ≤ 2 → length (print_all sep xs) ≤ 40 * length (encode_all xs)
  all-length sep none v h = omega arith
  all-length sep (more x xs) v h = let i = item-length x v.0 in let j = rest-length sep xs v.1 h in simp length-append (omega arith)

  pub rest-length : (sep : List ℕ) (xs : Items) → ValidAll xs → length sep ≤ 2 → length (print_rest sep xs) ≤ 40 * length (encode_all xs)
  rest-length sep none v h = omega arith
  rest-length sep (more x xs) v h = let i = item-length x v.0 in let j = rest-length sep xs v.1 h in simp length-append (omega arith)

  all_length₂ : (ps : Pairs) → ValidAll₂ ps → length (print_all₂ ps) ≤ 40 * length (encode_all₂ ps)
  all_length₂ none₂ v = omega arith
  all_length₂ (more₂ k x ps) v = let i = item-length k v.0 in let j = item-length x v.1 in let r = rest_length₂ ps v.2 in simp length-append (omega arith)

  rest_length₂ : (ps : Pairs) → ValidAll₂ ps → length (print_rest₂ ps) ≤ 40 * length (encode_all₂ ps)
  rest_length₂ none₂ v = omega arith
  rest_length₂ (more₂ k x ps) v = let i = item-length k v.0 in let j = item-length x v.1 in let r = rest_length₂ ps v.2 in simp length-append (omega arith)
