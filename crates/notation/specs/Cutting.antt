-- From the papers: the next token (document 01, Tokens: "A token is the longest that fits").
use Rattle.std.specs.Prelude.{ℕ, List, [], ◌∷◌, Bool, true, false, ◌&&◌, eqb, length}
use Rattle.cbor.specs.Refusals.{Result, ok, refuse, bind, no_token, dots, float, bad_indicator, not_allowed}
use Rattle.cbor.specs.Items.{unsigned, negative, byte_string, text_string}
use Rattle.notation.specs.Classes.{Class, other, blank, digit, letter, underscore, minus, dot, quote, apostrophe, slash, hash, comma, colon, open_paren, close_paren, open_bracket, close_bracket, open_brace, close_brace, less, greater, end_mark, class_of, is}
use Rattle.notation.specs.Scanning.{skip, fault, expect}
use Rattle.notation.specs.Indicators.{Indicator, absent, indefinitely, unknown, wide, indicator}
use Rattle.notation.specs.Numbers.{number}
use Rattle.notation.specs.Literals.{quoted}
use Rattle.notation.specs.Words.{infinity_word, word}
use Rattle.notation.specs.Tokens.{Opener, bracket, brace, embedding, chunking, opens, square, curly, round, angle, whole, Token, begins, closes, a_comma, a_colon}

unfoldable pub starts_with : List ℕ → List ℕ → Bool
starts_with [] s = true
starts_with (a ∷ w) [] = false
starts_with (a ∷ w) (b ∷ s) = eqb a b && starts_with w s

-- behind `-`: an integer, or `Infinity`
unfoldable pub after_minus : List ℕ → Result Token
after_minus [] = fault no_token
after_minus (b ∷ s) = elim (is digit b) [ true ↦ number negative b s | false ↦ elim (starts_with infinity_word (b ∷ s)) [ true ↦ fault float | false ↦ fault no_token ] ]

-- an unknown indicator on `[` or `{` is 9; the others are judged where the container closes
unfoldable pub opening_token : (Indicator → Opener) → Indicator → List ℕ → Result Token
opening_token o absent r = ok (begins (opens (o absent))) r
opening_token o indefinitely r = ok (begins (opens (o indefinitely))) r
opening_token o (wide w) r = ok (begins (opens (o (wide w)))) r
opening_token o unknown r = fault bad_indicator

-- the token that begins with a byte of a class, b, and goes on in s
unfoldable pub cut_by : Class → ℕ → List ℕ → Result Token
cut_by digit b s = number unsigned b s
cut_by minus b s = after_minus s
cut_by letter b s = word b s
cut_by quote b s = quoted text_string 0x22 s
cut_by apostrophe b s = quoted byte_string 0x27 s
cut_by open_bracket b s = bind (indicator s) (opening_token bracket)
cut_by open_brace b s = bind (indicator s) (opening_token brace)
cut_by open_paren b s = bind (expect 0x5f no_token s) (λ u r. ok (begins chunking) r)
cut_by less b s = bind (expect 0x3c no_token s) (λ u r. ok (begins (opens embedding)) r)
cut_by greater b s = bind (expect 0x3e no_token s) (λ u r. bind (indicator r) (λ i v. ok (closes angle i) v))
cut_by dot b s = bind (expect 0x2e no_token s) (λ u r. bind (expect 0x2e no_token r) (λ u v. fault dots))
cut_by close_bracket b s = ok (closes square absent) s
cut_by close_brace b s = ok (closes curly absent) s
cut_by close_paren b s = ok (closes round absent) s
cut_by comma b s = ok a_comma s
cut_by colon b s = ok a_colon s
cut_by end_mark b s = ok (closes whole absent) s
cut_by other b s = fault no_token
cut_by blank b s = fault no_token
cut_by underscore b s = fault no_token
cut_by slash b s = fault no_token
cut_by hash b s = fault no_token

-- 11: the text ended, and no token is left
unfoldable pub cut : List ℕ → Result Token
cut [] = fault not_allowed
cut (b ∷ s) = cut_by (class_of b) b s

-- how much is left at the next token
unfoldable pub place : List ℕ → ℕ
place s = length (skip s)

-- a fault stands at the token's first byte
unfoldable pub placed : {A : Type 0} → ℕ → Result A → Result A
placed q (ok x r) = ok x r
placed q (refuse n left) = refuse n q

unfoldable pub next : List ℕ → Result Token
next s = placed (place s) (cut (skip s))
