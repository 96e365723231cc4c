-- From the papers: printing (document 01, Printed layout).
use Rattle.std.specs.Prelude.{ℕ, zero, suc, ◌+◌, ◌/◌, ◌%◌, List, [], ◌∷◌, ◌++◌, true, false, ◌||◌, ltb, eqb, length}
use Rattle.cbor.specs.Ascii.{ascii}
use Rattle.cbor.specs.Widths.{Width, w0, w1, w2, w4, w8, argument_bytes, shortest}
use Rattle.cbor.specs.Items.{Sign, unsigned, negative, Kind, byte_string, text_string, Size, definite, indefinite, Chunk, Item, int, string, chunked, array, map, tag, simple, Items, none, more, Pairs, none₂, more₂, count, count₂}
use Rattle.notation.specs.Words.{false_word, true_word, null_word, undefined_word, simple_word}

-- "Integers decimal"; a number has fewer digits than f = suc n
unfoldable pub decimal_within : ℕ → ℕ → List ℕ
decimal_within zero n = []
decimal_within (suc f) n = elim (ltb n 10) [ true ↦ (0x30 + n) ∷ [] | false ↦ decimal_within f (n / 10) ++ (0x30 + n % 10) ∷ [] ]

unfoldable pub decimal_of : ℕ → List ℕ
decimal_of n = decimal_within (suc n) n

unfoldable pub hex_digit_of : ℕ → ℕ
hex_digit_of v = elim (ltb v 10) [ true ↦ 0x30 + v | false ↦ 0x57 + v ]

unfoldable pub hex_byte_of : ℕ → List ℕ
hex_byte_of b = hex_digit_of (b / 16) ∷ hex_digit_of (b % 16) ∷ []

unfoldable pub hex_of : List ℕ → List ℕ
hex_of [] = []
hex_of (b ∷ s) = hex_byte_of b ++ hex_of s

-- "text in `"`, escaping only `"` and `\` (by backslash) and bytes under 20 hex (`\u00xx`, lower case)"
unfoldable pub escape_of : ℕ → List ℕ
escape_of b = elim (eqb b 0x22 || eqb b 0x5c) [ true ↦ 0x5c ∷ b ∷ [] | false ↦ elim (ltb b 0x20) [ true ↦ ascii "\\u00" ++ hex_byte_of b | false ↦ b ∷ [] ] ]

unfoldable pub escaped_of : List ℕ → List ℕ
escaped_of [] = []
escaped_of (b ∷ s) = escape_of b ++ escaped_of s

-- "An indicator only where the head is not the shortest"
unfoldable pub width_name : Width → ℕ
width_name w0 = 0x69
width_name w1 = 0x30
width_name w2 = 0x31
width_name w4 = 0x32
width_name w8 = 0x33

unfoldable pub indicator_of : Width → ℕ → List ℕ
indicator_of w n = elim (eqb (argument_bytes w) (argument_bytes (shortest n))) [ true ↦ [] | false ↦ 0x5f ∷ width_name w ∷ [] ]

unfoldable pub print_string : Kind → Width → List ℕ → List ℕ
print_string byte_string w b = ascii "h'" ++ (hex_of b ++ (0x27 ∷ indicator_of w (length b)))
print_string text_string w b = 0x22 ∷ (escaped_of b ++ (0x22 ∷ indicator_of w (length b)))

unfoldable pub print_chunks : Kind → List Chunk → List ℕ
print_chunks k [] = []
print_chunks k (c ∷ cs) = ascii ", " ++ (print_string k c.width c.content ++ print_chunks k cs)

-- "Empty chunked strings are `''_` and `""_`"
unfoldable pub print_chunked : Kind → List Chunk → List ℕ
print_chunked byte_string [] = ascii "''_"
print_chunked text_string [] = ascii "\"\"_"
print_chunked k (c ∷ cs) = ascii "(_ " ++ (print_string k c.width c.content ++ (print_chunks k cs ++ ascii ")"))

-- "a bracket with one, and `(_`, is followed by a blank: `[_ ]`"
unfoldable pub blank_behind : List ℕ → List ℕ
blank_behind [] = []
blank_behind (b ∷ i) = b ∷ (i ++ 0x20 ∷ [])

unfoldable pub size_of : Size → ℕ → List ℕ
size_of (definite w) n = blank_behind (indicator_of w n)
size_of indefinite n = ascii "_ "

-- "Simple values by word, else `simple(n)`"
unfoldable pub print_simple : ℕ → List ℕ
print_simple n =
    elim (eqb n 20) [
      | true ↦ false_word
      | false ↦ elim (eqb n 21) [
        | true ↦ true_word
        | false ↦ elim (eqb n 22) [ true ↦ null_word | false ↦ elim (eqb n 23) [ true ↦ undefined_word | false ↦ simple_word ++ (0x28 ∷ (decimal_of n ++ 0x29 ∷ [])) ] ]
      ]
    ]

unfoldable pub print_int : Sign → Width → ℕ → List ℕ
print_int unsigned w n = decimal_of n ++ indicator_of w n
print_int negative w n = 0x2d ∷ (decimal_of (suc n) ++ indicator_of w n)

-- the rest of some items, or pairs, has what separates it in front of each
unfoldable mutual
  pub print_item : Item → List ℕ
  print_item (int g w n) = print_int g w n
  print_item (string k w b) = print_string k w b
  print_item (chunked k cs) = print_chunked k cs
  print_item (array z xs) = 0x5b ∷ (size_of z (count xs) ++ (print_all (ascii ", ") xs ++ ascii "]"))
  print_item (map z ps) = 0x7b ∷ (size_of z (count₂ ps) ++ (print_all₂ ps ++ ascii "}"))
  print_item (tag w n x) = (decimal_of n ++ indicator_of w n) ++ (0x28 ∷ (print_item x ++ ascii ")"))
  print_item (simple n) = print_simple n

  pub print_all : List ℕ → Items → List ℕ
  print_all sep none = []
  print_all sep (more x xs) = print_item x ++ print_rest sep xs

  pub print_rest : List ℕ → Items → List ℕ
  print_rest sep none = []
  print_rest sep (more x xs) = sep ++ (print_item x ++ print_rest sep xs)

  pub print_all₂ : Pairs → List ℕ
  print_all₂ none₂ = []
  print_all₂ (more₂ k x ps) = print_item k ++ (ascii ": " ++ (print_item x ++ print_rest₂ ps))

  pub print_rest₂ : Pairs → List ℕ
  print_rest₂ none₂ = []
  print_rest₂ (more₂ k x ps) = ascii ", " ++ (print_item k ++ (ascii ": " ++ (print_item x ++ print_rest₂ ps)))

-- "Top items are separated by `,` and newline, the last ends with newline; no items, no text"
unfoldable pub print_text : Items → List ℕ
print_text none = []
print_text (more x xs) = print_all (ascii ",\n") (more x xs) ++ ascii "\n"
