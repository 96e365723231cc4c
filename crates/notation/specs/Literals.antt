-- From the papers: string literals: quoted ones, `h'...'` and `b64'...'` (document 01, Tokens).
use Rattle.std.specs.Prelude.{ℕ, ◌+◌, ◌-◌, ◌*◌, ◌/◌, ◌%◌, List, [], ◌∷◌, ◌++◌, Bool, true, false, ◌&&◌, ◌||◌, leb, eqb, length}
use Rattle.cbor.specs.Refusals.{Result, ok, bind, no_token, bad_content, bad_indicator}
use Rattle.cbor.specs.Items.{Kind, byte_string, definite, indefinite}
use Rattle.cbor.specs.Utf8.{◌to◌, is_in}
use Rattle.notation.specs.Classes.{blank, slash, hash, is}
use Rattle.notation.specs.Scanning.{fault}
use Rattle.notation.specs.Indicators.{Indicator, absent, indefinitely, unknown, wide, indicator, chosen, misfit, choose}
use Rattle.notation.specs.Numbers.{digit_value, is_digit}
use Rattle.notation.specs.Quoted.{character, unquote}
use Rattle.notation.specs.Tokens.{Token, begins, literal}

-- WITH ITS INDICATOR

unfoldable pub literal_token : Kind → List ℕ → Indicator → List ℕ → Result Token
literal_token k b i r = elim (choose i (length b)) [ chosen w ↦ ok (begins (literal k (definite w) b)) r | misfit ↦ fault bad_indicator ]

-- "`_` alone .. only after .. the strings `""` and `''`"
unfoldable pub quoted_token : Kind → List ℕ → Indicator → List ℕ → Result Token
quoted_token k b absent r = literal_token k b absent r
quoted_token k b unknown r = literal_token k b unknown r
quoted_token k b (wide w) r = literal_token k b (wide w) r
quoted_token k [] indefinitely r = ok (begins (literal k indefinite [])) r
quoted_token k (c ∷ b) indefinitely r = literal_token k (c ∷ b) indefinitely r

unfoldable pub quoted : Kind → ℕ → List ℕ → Result Token
quoted k q s = bind (unquote q character s) (λ b r. bind (indicator r) (quoted_token k b))

-- THE TEXT OF A LITERAL: "the first `'` ends it, a backslash is no token, and bytes under 20 hex other than blanks are none either"
unfoldable pub is_body : ℕ → Bool
is_body b = is blank b || (leb 0x20 b && leb b 0xff)

unfoldable pub body : List ℕ → Result (List ℕ)
body [] = fault no_token
body (b ∷ s) =
    elim (eqb b 0x27) [
      | true ↦ ok [] s
      | false ↦ elim (eqb b 0x5c) [ true ↦ fault no_token | false ↦ elim (is_body b) [ true ↦ bind (body s) (λ c r. ok (b ∷ c) r) | false ↦ fault no_token ] ]
    ]

-- what its text stands for; 8: nothing
pub data Content : Type 0 where
  stands_for : List ℕ → Content
  bad : Content

unfoldable pub after : List ℕ → Content → Content
after w (stands_for c) = stands_for (w ++ c)
after w bad = bad

-- HEXADECIMAL: "an even count of hex digits, blanks and comments (each ended inside the literal) between, before and after any"
pub data Commenting : Type 0 where
  no_comment in_slash in_hash : Commenting

-- the digit that a byte begins with, if it is read
pub data Half : Type 0 where
  no_half : Half
  high : ℕ → Half

unfoldable pub half_end : Half → Content
half_end no_half = stands_for []
half_end (high v) = bad

unfoldable pub hex_digit : Half → ℕ → (Half → Content) → Content
hex_digit no_half v k = k (high v)
hex_digit (high u) v k = after ((u * 16 + v) ∷ []) (k no_half)

unfoldable pub hex_from : Commenting → Half → List ℕ → Content
hex_from no_comment h [] = half_end h
hex_from in_slash h [] = bad
hex_from in_hash h [] = bad
hex_from no_comment h (b ∷ s) =
    elim (is blank b) [
      | true ↦ hex_from no_comment h s
      | false ↦ elim (is slash b) [
        | true ↦ hex_from in_slash h s
        | false ↦ elim (is hash b) [
          | true ↦ hex_from in_hash h s
          | false ↦ elim (is_digit 16 b) [ true ↦ hex_digit h (digit_value b) (λ h'. hex_from no_comment h' s) | false ↦ bad ]
        ]
      ]
    ]
hex_from in_slash h (b ∷ s) = elim (is slash b) [ true ↦ hex_from no_comment h s | false ↦ hex_from in_slash h s ]
hex_from in_hash h (b ∷ s) = elim (eqb b 0x0a) [ true ↦ hex_from no_comment h s | false ↦ hex_from in_hash h s ]

unfoldable pub hex_content : List ℕ → Content
hex_content s = hex_from no_comment no_half s

-- BASE64: "RFC 4648 alphabets of sections 4 and 5, .. the two mixed too": a letter by its value, `=`, or what is in neither
pub data Sextet : Type 0 where
  sextet : ℕ → Sextet
  padding non_alphabet : Sextet

unfoldable pub sextet_at : ℕ → Sextet
sextet_at b =
    elim (is_in (0x41 to 0x5a) b) [
      | true ↦ sextet (b - 0x41)
      | false ↦ elim (is_in (0x61 to 0x7a) b) [
        | true ↦ sextet (b - 0x47)
        | false ↦ elim (is_in (0x30 to 0x39) b) [
          | true ↦ sextet (b + 4)
          | false ↦ elim (eqb b 0x2b || eqb b 0x2d) [
            | true ↦ sextet 62
            | false ↦ elim (eqb b 0x2f || eqb b 0x5f) [ true ↦ sextet 63 | false ↦ elim (eqb b 0x3d) [ true ↦ padding | false ↦ non_alphabet ] ]
          ]
        ]
      ]
    ]

unfoldable pub is_padding : Sextet → Bool
is_padding (sextet v) = false
is_padding padding = true
is_padding non_alphabet = false

-- "blanks allowed"
unfoldable pub sextets : List ℕ → List Sextet
sextets [] = []
sextets (b ∷ s) = elim (is blank b) [ true ↦ sextets s | false ↦ sextet_at b ∷ sextets s ]

-- where only a letter may stand: what its value makes
unfoldable pub valued : Sextet → (ℕ → Content) → Content
valued (sextet v) k = k v
valued padding k = bad
valued non_alphabet k = bad

-- "unused bits zero"
unfoldable pub last_two : Sextet → Sextet → Content
last_two a b = valued a (λ u. valued b (λ v. elim (eqb (v % 16) 0) [ true ↦ stands_for ((u * 4 + v / 16) ∷ []) | false ↦ bad ]))

unfoldable pub last_three : Sextet → Sextet → Sextet → Content
last_three a b c =
    valued a (λ u. valued b (λ v. valued c (λ w. elim (eqb (w % 4) 0) [ true ↦ stands_for ((u * 4 + v / 16) ∷ (v % 16 * 16 + w / 4) ∷ []) | false ↦ bad ])))

-- "`=` absent, or at the end the least number that makes the count a multiple of four, no single letter left over"
unfoldable pub last_four : Sextet → Sextet → Sextet → Content
last_four a b c = elim (is_padding c) [ true ↦ last_two a b | false ↦ last_three a b c ]

unfoldable pub full_four : Sextet → Sextet → Sextet → Sextet → Content → Content
full_four a b c d k =
    valued a (λ u. valued b (λ v. valued c (λ w. valued d (λ x. after ((u * 4 + v / 16) ∷ (v % 16 * 16 + w / 4) ∷ (w % 4 * 64 + x) ∷ []) k))))

unfoldable pub base64_from : List Sextet → Content
base64_from [] = stands_for []
base64_from (a ∷ []) = bad
base64_from (a ∷ b ∷ []) = last_two a b
base64_from (a ∷ b ∷ c ∷ []) = last_three a b c
base64_from (a ∷ b ∷ c ∷ d ∷ []) = elim (is_padding d) [ true ↦ last_four a b c | false ↦ full_four a b c d (stands_for []) ]
base64_from (a ∷ b ∷ c ∷ d ∷ e ∷ s) = full_four a b c d (base64_from (e ∷ s))

unfoldable pub base64_content : List ℕ → Content
base64_content s = base64_from (sextets s)

-- behind `h'` or `b64'`: 3, then 8, then 9
unfoldable pub contained : Content → Indicator → List ℕ → Result Token
contained (stands_for b) i r = literal_token byte_string b i r
contained bad i r = fault bad_content

unfoldable pub encoded_literal : (List ℕ → Content) → List ℕ → Result Token
encoded_literal read s = bind (body s) (λ b r. bind (indicator r) (contained (read b)))
