-- What is printed is UTF-8: ASCII but for the bytes of text strings, of which escapes replace ASCII bytes alone.
use Prim.Native.Nat.{ℕ, suc, ◌/◌, ◌%◌, ◌≤◌, ◌<◌}
use native.Mathlib.Omega.{arith}
use mathlib.Core.Path.{◌≡◌, refl}
use mathlib.Core.Bool.{Bool, true, false}
use mathlib.Core.List.{List, [], ◌∷◌, ◌++◌, append_assoc}
use lib.Dec.{T, ltb, ltb→lt}
use lib.ListN.{length}
use borrow.Author.Tests.{eqb-true, eq-eqb, ltb-true, ltb-false, le-ltb, ne_eqb}
use Rattle.cbor.specs.Ascii.{ascii}
use Rattle.cbor.specs.Widths.{Width, w0, w1, w2, w4, w8}
use Rattle.cbor.specs.Items.{Sign, unsigned, negative, Kind, byte_string, text_string, Size, definite, indefinite, Chunk, Item, int, string, chunked, array, map, tag, simple, Items, none, more, Pairs, none₂, more₂, count, count₂}
use Rattle.cbor.specs.Utf8.{is_in, rows, follow_in, follow, are_in, sequence_by, first_bad_from, first_bad, is_utf8}
use Rattle.cbor.specs.Valid.{Bytes, is_text, ValidString, ValidChunks, Valid, ValidAll, ValidAll₂}
use Rattle.cbor.proofs.Table.{both, every, between}
use Rattle.cbor.proofs.Utf8Laws.{utf8_append, utf8_join, utf8-ascii-cut}
use Rattle.notation.specs.Numbers.{is_digit}
use Rattle.notation.specs.Words.{false_word, true_word, null_word, undefined_word}
use Rattle.notation.specs.Printing.{decimal_of, hex_digit_of, hex_byte_of, hex_of, escape_of, escaped_of, width_name, indicator_of, print_string, print_chunks, print_chunked, blank_behind, size_of, print_int, print_item, print_all, print_rest, print_all₂, print_rest₂, print_text}
use Rattle.notation_theorems.proofs.PrintNumbers.{Each, sure, digit_range, digits_decimal, Shown, as_shortest, by_name, shown}
use Rattle.notation_theorems.proofs.PrintStrings.{sixteen}
use Rattle.notation_theorems.proofs.PrintTokens.{Simply, as_false, as_true, as_null, as_undefined, as_number, simply}

-- ASCII IN FRONT

nil_utf8 : is_utf8 [] ≡ true
unfolding is_utf8 first_bad first_bad_from
nil_utf8 = refl

one-utf8 : (b : ℕ) → b < 128 → is_utf8 (b ∷ []) ≡ true
unfolding is_utf8 first_bad first_bad_from sequence_by follow follow_in rows are_in is_in
one-utf8 b h = sure (is_utf8 (b ∷ [])) (between (λ b. is_utf8 (b ∷ [])) 0 128 tt b (omega arith) h)

ascii-first : (b : ℕ) (s : List ℕ) → b < 128 → is_utf8 s ≡ true → is_utf8 (b ∷ s) ≡ true
ascii-first b s h u = utf8_join (b ∷ []) s (one-utf8 b h) u

-- bytes that one test finds ASCII
plain_from : (i : ℕ) (w s : List ℕ) → T (every (λ k b. ltb b 128) i w) → is_utf8 s ≡ true → is_utf8 (w ++ s) ≡ true
plain_from i [] s t u = u
plain_from i (b ∷ w) s t u = let p = both (ltb b 128) (every (λ k b. ltb b 128) (suc i) w) t in ascii-first b (w ++ s) (ltb→lt b 128 p.0) (plain_from (suc i) w s p.1 u)

plain : (w s : List ℕ) → T (every (λ k b. ltb b 128) 0 w) → is_utf8 s ≡ true → is_utf8 (w ++ s) ≡ true
plain w s t u = plain_from 0 w s t u

digits_utf8 : (w : List ℕ) → Each (is_digit 10) w → is_utf8 w ≡ true
digits_utf8 [] e = nil_utf8
digits_utf8 (b ∷ w) e = let r = digit_range b e.0 in ascii-first b w (omega arith) (digits_utf8 w e.1)

decimal-utf8 : (n : ℕ) → is_utf8 (decimal_of n) ≡ true
decimal-utf8 n = digits_utf8 (decimal_of n) (digits_decimal n)

name_utf8 : (w : Width) → width_name w < 128
unfolding width_name
name_utf8 w0 = omega arith
name_utf8 w1 = omega arith
name_utf8 w2 = omega arith
name_utf8 w4 = omega arith
name_utf8 w8 = omega arith

shown-utf8 : {w : Width} {n : ℕ} {l : List ℕ} → Shown w n l → (is_utf8 l ≡ true) × (is_utf8 (blank_behind l) ≡ true)
unfolding blank_behind
shown-utf8 (as_shortest e) = (nil_utf8, nil_utf8)
shown-utf8 {w} by_name = (
  ascii-first 0x5f (width_name w ∷ []) (omega arith) (ascii-first (width_name w) [] (name_utf8 w) nil_utf8),
  ascii-first 0x5f (width_name w ∷ 0x20 ∷ []) (omega arith) (ascii-first (width_name w) (0x20 ∷ []) (name_utf8 w) (ascii-first 0x20 [] (omega arith) nil_utf8)),
)

indicator-utf8 : (w : Width) (n : ℕ) → is_utf8 (indicator_of w n) ≡ true
indicator-utf8 w n = (shown-utf8 (shown w n)).0

size-utf8 : (z : Size) (n : ℕ) → is_utf8 (size_of z n) ≡ true
unfolding size_of
size-utf8 (definite w) n = (shown-utf8 (shown w n)).1
size-utf8 indefinite n = plain (ascii "_ ") [] tt nil_utf8

-- STRINGS

hex-utf8 : (b : List ℕ) → Bytes b → is_utf8 (hex_of b) ≡ true
unfolding hex_of hex_byte_of Bytes hex_digit_of
hex-utf8 [] u = nil_utf8
hex-utf8 (x ∷ b) u =
    let l = u.0 in
    ascii-first (hex_digit_of (x / 16)) _ (ltb-true _ 128 (sixteen (λ v. ltb (hex_digit_of v) 128) tt (x / 16) (omega arith)))
    (ascii-first (hex_digit_of (x % 16)) _ (ltb-true _ 128 (sixteen (λ v. ltb (hex_digit_of v) 128) tt (x % 16) (omega arith))) (hex-utf8 b u.1))

escape-utf8 : (c : ℕ) → c < 128 → is_utf8 (escape_of c) ≡ true
unfolding escape_of hex_byte_of hex_digit_of is_utf8 first_bad first_bad_from sequence_by follow follow_in rows are_in is_in
escape-utf8 c h = sure (is_utf8 (escape_of c)) (between (λ c. is_utf8 (escape_of c)) 0 128 tt c (omega arith) h)

escape-high : (c : ℕ) → 128 ≤ c → escape_of c ≡ c ∷ []
unfolding escape_of
escape-high c h = rw (ne_eqb c 0x22 (λ e. omega arith), ne_eqb c 0x5c (λ e. omega arith), escape_of) (rw (le-ltb c 0x20 (omega arith)))

behind-ascii : (c : ℕ) (b : List ℕ) → c < 128 → is_utf8 (c ∷ b) ≡ true → is_utf8 b ≡ true
unfolding is_utf8
behind-ascii c b h u = eq-eqb (first_bad b) (length b) (omega (arith, utf8_append (c ∷ []) b (one-utf8 c h), eqb-true (first_bad (c ∷ b)) (length (c ∷ b)) u))

-- a is what was passed since the last ASCII byte: it stays as it is
escaped_from : (a b : List ℕ) → is_utf8 (a ++ b) ≡ true → is_utf8 (a ++ escaped_of b) ≡ true
unfolding escaped_of
escaped_from a [] u = u
escaped_from a (c ∷ b) u = go (ltb c 128) refl (escaped_from [] b) (escaped_from (a ++ c ∷ []) b)
  where
    go : (v : Bool) → ltb c 128 ≡ v → (is_utf8 b ≡ true → is_utf8 (escaped_of b) ≡ true) → (is_utf8 ((a ++ c ∷ []) ++ b) ≡ true → is_utf8 ((a ++ c ∷ []) ++ escaped_of b) ≡ true)
        → is_utf8 (a ++ (escape_of c ++ escaped_of b)) ≡ true
    go true e f g =
        let l = ltb-true c 128 e in
        let p = utf8-ascii-cut a b c l u in
        utf8_join a _ p.0 (utf8_join (escape_of c) (escaped_of b) (escape-utf8 c l) (f (behind-ascii c b l p.1)))
    go false e f g = rw (escape-high c (ltb-false c 128 e)) (rw (append_assoc a (c ∷ []) (escaped_of b)) at (g (rw (append_assoc a (c ∷ []) b) u)))

string-utf8 : (k : Kind) (w : Width) (b : List ℕ) → ValidString k w b → is_utf8 (print_string k w b) ≡ true
unfolding print_string is_text
string-utf8 byte_string w b v = plain (ascii "h'") _ tt (utf8_join (hex_of b) _ (hex-utf8 b v.bytes) (ascii-first 0x27 _ (omega arith) (indicator-utf8 w (length b))))
string-utf8 text_string w b v =
    ascii-first 0x22 _ (omega arith) (utf8_join (escaped_of b) _ (escaped_from [] b v.good) (ascii-first 0x22 _ (omega arith) (indicator-utf8 w (length b))))

chunks-utf8 : (k : Kind) (cs : List Chunk) → ValidChunks k cs → is_utf8 (print_chunks k cs) ≡ true
unfolding print_chunks ValidChunks
chunks-utf8 k [] v = nil_utf8
chunks-utf8 k (c ∷ cs) v = plain (ascii ", ") _ tt (utf8_join (print_string k c.width c.content) _ (string-utf8 k c.width c.content v.0) (chunks-utf8 k cs v.1))

chunked-utf8 : (k : Kind) (cs : List Chunk) → ValidChunks k cs → is_utf8 (print_chunked k cs) ≡ true
unfolding print_chunked ValidChunks
chunked-utf8 byte_string [] v = plain (ascii "''_") [] tt nil_utf8
chunked-utf8 text_string [] v = plain (ascii "\"\"_") [] tt nil_utf8
chunked-utf8 k (c ∷ cs) v =
    plain (ascii "(_ ") _ tt
    (utf8_join (print_string k c.width c.content) _ (string-utf8 k c.width c.content v.0)
    (utf8_join (print_chunks k cs) _ (chunks-utf8 k cs v.1) (plain (ascii ")") [] tt nil_utf8)))

-- ITEMS

simply_utf8 : {n : ℕ} {l : List ℕ} → Simply n l → is_utf8 l ≡ true
simply_utf8 (as_false e) = plain false_word [] tt nil_utf8
simply_utf8 (as_true e) = plain true_word [] tt nil_utf8
simply_utf8 (as_null e) = plain null_word [] tt nil_utf8
simply_utf8 (as_undefined e) = plain undefined_word [] tt nil_utf8
simply_utf8 {n} as_number = plain (ascii "simple(") (decimal_of n ++ ascii ")") tt (utf8_join (decimal_of n) (ascii ")") (decimal-utf8 n) (plain (ascii ")") [] tt nil_utf8))

int-utf8 : (g : Sign) (w : Width) (n : ℕ) → is_utf8 (print_int g w n) ≡ true
unfolding print_int
int-utf8 unsigned w n = utf8_join (decimal_of n) _ (decimal-utf8 n) (indicator-utf8 w n)
int-utf8 negative w n = ascii-first 0x2d _ (omega arith) (utf8_join (decimal_of (suc n)) _ (decimal-utf8 (suc n)) (indicator-utf8 w n))

-- the separators are ASCII
mutual
  unfolding print_item print_all print_rest print_all₂ print_rest₂ Valid ValidAll ValidAll₂

  pub item-utf8 : (x : Item) → Valid x → is_utf8 (print_item x) ≡ true
  item-utf8 (int g w n) v = int-utf8 g w n
  item-utf8 (string k w b) v = string-utf8 k w b v
  item-utf8 (chunked k cs) v = chunked-utf8 k cs v
  item-utf8 (array z xs) v =
      ascii-first 0x5b _ (omega arith)
      (utf8_join (size_of z (count xs)) _ (size-utf8 z (count xs)) (utf8_join (print_all (ascii ", ") xs) _ (all-utf8 xs 0x20 (omega arith) v.1) (plain (ascii "]") [] tt nil_utf8)))
  item-utf8 (map z ps) v =
      ascii-first 0x7b _ (omega arith)
      (utf8_join (size_of z (count₂ ps)) _ (size-utf8 z (count₂ ps)) (utf8_join (print_all₂ ps) _ (all₂_utf8 ps v.1) (plain (ascii "}") [] tt nil_utf8)))
  item-utf8 (tag w n x) v =
      utf8_join (decimal_of n ++ indicator_of w n) _ (utf8_join (decimal_of n) _ (decimal-utf8 n) (indicator-utf8 w n))
      (ascii-first 0x28 _ (omega arith) (utf8_join (print_item x) _ (item-utf8 x v.2) (plain (ascii ")") [] tt nil_utf8)))
  item-utf8 (simple n) v = simply_utf8 (simply n)

  all-utf8 : (xs : Items) (c : ℕ) → c < 128 → ValidAll xs → is_utf8 (print_all (0x2c ∷ c ∷ []) xs) ≡ true
  all-utf8 none c h v = nil_utf8
  all-utf8 (more x xs) c h v = utf8_join (print_item x) _ (item-utf8 x v.0) (rest-utf8 xs c h v.1)

  rest-utf8 : (xs : Items) (c : ℕ) → c < 128 → ValidAll xs → is_utf8 (print_rest (0x2c ∷ c ∷ []) xs) ≡ true
  rest-utf8 none c h v = nil_utf8
  rest-utf8 (more x xs) c h v = ascii-first 0x2c _ (omega arith) (ascii-first c _ h (utf8_join (print_item x) _ (item-utf8 x v.0) (rest-utf8 xs c h v.1)))

  all₂_utf8 : (ps : Pairs) → ValidAll₂ ps → is_utf8 (print_all₂ ps) ≡ true
  all₂_utf8 none₂ v = nil_utf8
  all₂_utf8 (more₂ k x ps) v = utf8_join (print_item k) _ (item-utf8 k v.0) (plain (ascii ": ") _ tt (utf8_join (print_item x) _ (item-utf8 x v.1) (rest₂_utf8 ps v.2)))

  rest₂_utf8 : (ps : Pairs) → ValidAll₂ ps → is_utf8 (print_rest₂ ps) ≡ true
  rest₂_utf8 none₂ v = nil_utf8
  rest₂_utf8 (more₂ k x ps) v =
      plain (ascii ", ") _ tt (utf8_join (print_item k) _ (item-utf8 k v.0) (plain (ascii ": ") _ tt (utf8_join (print_item x) _ (item-utf8 x v.1) (rest₂_utf8 ps v.2))))

pub print-utf8 : (xs : Items) → ValidAll xs → is_utf8 (print_text xs) ≡ true
unfolding print_text
print-utf8 none v = nil_utf8
print-utf8 (more x xs) v = utf8_join (print_all (ascii ",\n") (more x xs)) _ (all-utf8 (more x xs) 0x0a (omega arith) v) (plain (ascii "\n") [] tt nil_utf8)
