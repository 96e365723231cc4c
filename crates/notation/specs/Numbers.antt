-- From the papers: integers and tag openings (document 01, Tokens: "Integer", "Float tokens").
use Rattle.std.specs.Prelude.{ℕ, zero, suc, ◌+◌, ◌-◌, ◌*◌, List, [], ◌∷◌, Bool, true, false, ◌&&◌, ◌||◌, leb, ltb, eqb}
use Rattle.cbor.specs.Refusals.{Result, ok, bind, no_token, float, out_of_range, bad_indicator}
use Rattle.cbor.specs.Widths.{Width, w8, limit}
use Rattle.cbor.specs.Items.{Sign, unsigned, negative, int}
use Rattle.cbor.specs.Utf8.{◌to◌, is_in}
use Rattle.notation.specs.Scanning.{fault, run, whether}
use Rattle.notation.specs.Indicators.{Indicator, indicator, Chosen, chosen, misfit, choose}
use Rattle.notation.specs.Tokens.{Token, begins, leaf, opens, tagging}

-- a digit, by its value
pub data Digit : Type 0 where
  worth : ℕ → Digit
  no_digit : Digit

-- "hex in either case"
abbrev pub digit_at : ℕ → Digit
digit_at b =
    elim (is_in (0x30 to 0x39) b) [
      | true ↦ worth (b - 0x30)
      | false ↦ elim (is_in (0x61 to 0x66) b) [ true ↦ worth (b - 0x57) | false ↦ elim (is_in (0x41 to 0x46) b) [ true ↦ worth (b - 0x37) | false ↦ no_digit ] ]
    ]

unfoldable pub is_digit : ℕ → ℕ → Bool
is_digit radix b = elim (digit_at b) [ worth v ↦ ltb v radix | no_digit ↦ false ]

-- the value of a digit; of any other byte it is never asked
unfoldable pub digit_value : ℕ → ℕ
digit_value b = elim (digit_at b) [ worth v ↦ v | no_digit ↦ 0 ]

-- the number that digits make, behind those already read, which make v: any number of digits
unfoldable pub number_from : ℕ → ℕ → List ℕ → ℕ
number_from radix v [] = v
number_from radix v (b ∷ s) = number_from radix (v * radix + digit_value b) s

unfoldable pub digits : ℕ → ℕ → List ℕ → Result ℕ
digits radix v s = bind (run (is_digit radix) s) (λ w r. ok (number_from radix v w) r)

-- "decimal digits followed at once by `.`, `e`, `E`, or `0x` digits followed by `.`, `p`, `P`"
unfoldable pub makes_float : ℕ → ℕ → Bool
makes_float radix b =
    eqb b 0x2e && (eqb radix 10 || eqb radix 16)
    || (eqb radix 10 && (eqb b 0x65 || eqb b 0x45) || eqb radix 16 && (eqb b 0x70 || eqb b 0x50))

-- whether the digits at the front belong to a float
unfoldable pub is_floating : ℕ → List ℕ → Bool
is_floating radix [] = false
is_floating radix (b ∷ s) = elim (is_digit radix b) [ true ↦ is_floating radix s | false ↦ makes_float radix b ]

-- the radix that `x`, `o`, `b` behind a zero give
pub data Radix : Type 0 where
  in_radix : ℕ → Radix
  no_radix : Radix

unfoldable pub radix_of : ℕ → Radix
radix_of b = elim (eqb b 0x78) [ true ↦ in_radix 16 | false ↦ elim (eqb b 0x6f) [ true ↦ in_radix 8 | false ↦ elim (eqb b 0x62) [ true ↦ in_radix 2 | false ↦ no_radix ] ] ]

-- an argument n and its indicator: 7, then 9, else what the width makes
unfoldable pub judged : ℕ → Chosen → (Width → Token) → List ℕ → Result Token
judged n c make r = elim (leb n (limit w8)) [ true ↦ elim c [ chosen w ↦ ok (make w) r | misfit ↦ fault bad_indicator ] | false ↦ fault out_of_range ]

unfoldable pub integer_token : Sign → ℕ → Width → Token
integer_token g n w = begins (leaf (int g w n))

-- "`-` with a zero is no token"
unfoldable pub integer : Sign → ℕ → Indicator → List ℕ → Result Token
integer unsigned n i r = judged n (choose i n) (integer_token unsigned n) r
integer negative zero i r = fault no_token
integer negative (suc n) i r = judged n (choose i n) (integer_token negative n) r

-- behind the digits: the indicator
unfoldable pub other_integer : Sign → ℕ → List ℕ → Result Token
other_integer g n s = bind (indicator s) (integer g n)

-- "A decimal without sign, its indicator and `(` at once is a tag opening"
unfoldable pub decimal : Sign → ℕ → List ℕ → Result Token
decimal unsigned n s =
    bind (indicator s)
    (λ i r. bind (whether 0x28 r)
    (λ tag u. elim tag [ true ↦ judged n (choose i n) (λ w. begins (opens (tagging w n))) u | false ↦ integer unsigned n i u ]))
decimal negative n s = other_integer negative n s

-- behind a zero: `x`, `o` or `b` with a digit, or the zero alone
unfoldable pub based : Sign → ℕ → ℕ → List ℕ → Result Token
based g radix v s = elim (is_floating radix s) [ true ↦ fault float | false ↦ bind (digits radix v s) (other_integer g) ]

unfoldable pub after_zero : Sign → List ℕ → Result Token
after_zero g [] = decimal g 0 []
after_zero g (c ∷ []) = decimal g 0 (c ∷ [])
after_zero g (c ∷ d ∷ s) =
    elim (radix_of c) [
      | in_radix n ↦ elim (is_digit n d) [ true ↦ based g n (digit_value d) s | false ↦ decimal g 0 (c ∷ d ∷ s) ]
      | no_radix ↦ decimal g 0 (c ∷ d ∷ s)
    ]

-- an integer, or a tag opening, whose first digit is b
unfoldable pub number : Sign → ℕ → List ℕ → Result Token
number g b s =
    elim (is_floating 10 s) [
      | true ↦ fault float
      | false ↦ elim (eqb b 0x30) [ true ↦ after_zero g s | false ↦ bind (digits 10 (digit_value b) s) (decimal g) ]
    ]
