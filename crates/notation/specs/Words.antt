-- From the papers: words, prefixes and `simple(n)` (document 01, Tokens: "A word"), compared byte for byte.
use Rattle.std.specs.Prelude.{ℕ, List, [], ◌∷◌, Bool, true, false, ◌&&◌, ◌||◌, leb, eqb}
use Rattle.cbor.specs.Refusals.{Result, ok, bind, unknown_word, float, bad_content}
use Rattle.cbor.specs.Ascii.{ascii}
use Rattle.cbor.specs.Items.{simple}
use Rattle.cbor.specs.Valid.{is_simple}
use Rattle.notation.specs.Classes.{is_word}
use Rattle.notation.specs.Scanning.{fault, run, whether, expect}
use Rattle.notation.specs.Numbers.{is_digit, number_from}
use Rattle.notation.specs.Literals.{hex_content, base64_content, encoded_literal}
use Rattle.notation.specs.Tokens.{Token, begins, leaf}

unfoldable pub same : List ℕ → List ℕ → Bool
same [] [] = true
same [] (b ∷ t) = false
same (a ∷ s) [] = false
same (a ∷ s) (b ∷ t) = eqb a b && same s t

-- the words
abbrev pub false_word : List ℕ
false_word = ascii "false"

abbrev pub true_word : List ℕ
true_word = ascii "true"

abbrev pub null_word : List ℕ
null_word = ascii "null"

abbrev pub undefined_word : List ℕ
undefined_word = ascii "undefined"

abbrev pub simple_word : List ℕ
simple_word = ascii "simple"

abbrev pub nan_word : List ℕ
nan_word = ascii "NaN"

abbrev pub infinity_word : List ℕ
infinity_word = ascii "Infinity"

abbrev pub hex_prefix : List ℕ
hex_prefix = ascii "h"

abbrev pub base64_prefix : List ℕ
base64_prefix = ascii "b64"

-- `NaN` and `Infinity` "are no words"
unfoldable pub is_float_word : List ℕ → Bool
is_float_word w = same w nan_word || same w infinity_word

-- decimal without leading zero
unfoldable pub is_plain_decimal : List ℕ → Bool
is_plain_decimal [] = false
is_plain_decimal (b ∷ []) = true
is_plain_decimal (b ∷ c ∷ w) = leb 0x31 b

-- "0 to 23 or 32 to 255", else 8; "`simple` in another shape is an unknown word"
unfoldable pub simple_by : List ℕ → List ℕ → Result Token
simple_by w r =
    elim (is_plain_decimal w) [
      | true ↦ elim (is_simple (number_from 10 0 w)) [ true ↦ ok (begins (leaf (simple (number_from 10 0 w)))) r | false ↦ fault bad_content ]
      | false ↦ fault unknown_word
    ]

unfoldable pub simple_token : List ℕ → Result Token
simple_token s =
    bind (whether 0x28 s)
    (λ there r. elim there [ true ↦ bind (run (is_digit 10) r) (λ w u. bind (expect 0x29 unknown_word u) (λ x v. simple_by w v)) | false ↦ fault unknown_word ])

unfoldable pub value : ℕ → List ℕ → Result Token
value n r = ok (begins (leaf (simple n))) r

-- a word with no `'` behind it
unfoldable pub worded : List ℕ → List ℕ → Result Token
worded w r =
    elim (same w false_word) [
      | true ↦ value 20 r
      | false ↦ elim (same w true_word) [
        | true ↦ value 21 r
        | false ↦ elim (same w null_word) [
          | true ↦ value 22 r
          | false ↦ elim (same w undefined_word) [
            | true ↦ value 23 r
            | false ↦ elim (same w simple_word) [ true ↦ simple_token r | false ↦ elim (is_float_word w) [ true ↦ fault float | false ↦ fault unknown_word ] ]
          ]
        ]
      ]
    ]

-- "A word with `'` at once after it is a prefix; an unknown one is refused by the word alone"
unfoldable pub prefixed : List ℕ → List ℕ → Result Token
prefixed w r =
    elim (same w hex_prefix) [
      | true ↦ encoded_literal hex_content r
      | false ↦ elim (same w base64_prefix) [ true ↦ encoded_literal base64_content r | false ↦ elim (is_float_word w) [ true ↦ fault float | false ↦ fault unknown_word ] ]
    ]

-- a word whose first letter is b
unfoldable pub word : ℕ → List ℕ → Result Token
word b s = bind (run is_word s) (λ w r. bind (whether 0x27 r) (λ quote u. elim quote [ true ↦ prefixed (b ∷ w) u | false ↦ worded (b ∷ w) u ]))
