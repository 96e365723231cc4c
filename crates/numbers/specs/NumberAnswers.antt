-- Of the code: what the code that reads numbers and indicators answers. s is a text.
use Rattle.std.specs.Prelude.{ℕ, ◌+◌, ◌≤◌, ◌<◌, ◌≡◌, Bool, true, false, List, leb, eqb, length, drop, get_or}
use Rattle.cbor.specs.Refusals.{ok}
use Rattle.cbor.specs.Widths.{Width, w0, w1, w2, w4, w8, limit, shortest}
use Rattle.cbor.specs.Flags.{sign_of}
use Rattle.cbor.specs.Items.{Sign}
use Rattle.notation.specs.Indicators.{Indicator, indicator, Chosen, chosen, misfit, choose}
use Rattle.notation.specs.Numbers.{is_digit, Radix, in_radix, no_radix, judged, integer, decimal, based, after_zero}
use Rattle.notation.specs.Tokens.{Token}
use Rattle.notation.specs.Reading.{marked}
use Rattle.literal_body.specs.LiteralAnswers.{digit_number}
use Rattle.token.specs.TokenAnswers.{width_number, indicator_number, code_of, mark_of, number_of, Written, Says}
use Rattle.amounts.specs.AmountAnswers.{Counts}
use Rattle.amounts.specs.declared.Amount.{Amount}
use Rattle.amounts.specs.declared.Digits.{Digits}
use Rattle.numbers.specs.declared.indicator.Mark.{Mark}
use Rattle.token.specs.declared.Token.{Token as Cut}

-- INDICATORS
pub record Indicated (s : List ℕ) (at : ℕ) (m : Mark) : Type 0 where
  pub ind : Indicator
  pub is : indicator (drop at (marked s)) ≡ ok ind (drop m.next (marked s))
  pub mark : m.mark ≡ indicator_number ind
  pub inside : m.next ≤ length s
  pub ahead : at ≤ m.next

-- the largest argument of a width, by its number; the number of the width that an indicator gives an argument, 0: a misfit
unfoldable pub limit_by : ℕ → ℕ
limit_by m = elim (eqb m 3) [ true ↦ limit w0 | false ↦ elim (eqb m 4) [ true ↦ limit w1 | false ↦ elim (eqb m 5) [ true ↦ limit w2 | false ↦ elim (eqb m 6) [ true ↦ limit w4 | false ↦ limit w8 ] ] ] ]

unfoldable pub choose_by : ℕ → ℕ → ℕ
choose_by m n = elim (eqb m 0) [ true ↦ width_number (shortest n) | false ↦ elim (leb m 2) [ true ↦ 0 | false ↦ elim (leb n (limit_by m)) [ true ↦ m | false ↦ 0 ] ] ]

unfoldable pub chosen_number : Chosen → ℕ
chosen_number (chosen w) = width_number w
chosen_number misfit = 0

-- n is v, or over the limit
pub record Limited (v : ℕ) (over : Bool) (n : ℕ) : Type 0 where
  pub within : over ≡ false → n ≡ v
  pub above : over ≡ true → limit w8 < n
  pub small : v ≤ limit w8

-- the tokens that n makes with each width
pub record Makes (c n : ℕ) (make : Width → Token) : Type 0 where
  pub code : (w : Width) → c ≡ code_of (make w)
  pub mark : (w : Width) → width_number w ≡ mark_of (make w)
  pub number : (w : Width) → n ≡ number_of (make w)
  pub written : (s : List ℕ) (t : Cut) (w : Width) → Written s t (make w)

pub record Judging (code mark v : ℕ) (over : Bool) (place next : ℕ) (t : Cut) : Type 0 where
  pub is : (s : List ℕ) (n : ℕ) (i : Indicator) (make : Width → Token) → Limited v over n → mark ≡ indicator_number i → Makes code n make → next ≤ length s
      → Says s place t (judged n (choose i n) make (drop next (marked s)))

pub record Integral (minus : Bool) (a : Amount) (m : Mark) (place : ℕ) (t : Cut) : Type 0 where
  pub is : (s : List ℕ) (at n : ℕ) → Counts a n → (x : Indicated s at m) → Says s place t (integer (sign_of minus) n x.ind (drop m.next (marked s)))

pub record Decimals (s : List ℕ) (place at : ℕ) (minus : Bool) (a : Amount) (t : Cut) : Type 0 where
  pub is : (n : ℕ) → Counts a n → Says s place t (decimal (sign_of minus) n (drop at (marked s)))

-- a decimal digit stands there
pub record DigitAt (s : List ℕ) (at : ℕ) : Type 0 where
  pub inside : at < length s
  pub digit : is_digit 10 (get_or s at 0) ≡ true

-- the number of a radix, 0 where there is none
unfoldable pub radix_number : Radix → ℕ
radix_number (in_radix n) = n
radix_number no_radix = 0

-- the radix behind a zero, with a digit of it; 0: none
pub record Prefixed (s : List ℕ) (at radix : ℕ) : Type 0 where
  pub none : radix ≡ 0 → (g : Sign) → after_zero g (drop at (marked s)) ≡ decimal g 0 (drop at (marked s))
  pub some : (radix ≡ 0 → ⊥) → (g : Sign) → after_zero g (drop at (marked s)) ≡ based g radix (digit_number (get_or s (at + 1) 0)) (drop (at + 2) (marked s))
  pub inside : (radix ≡ 0 → ⊥) → at + 2 ≤ length s
  pub least : (radix ≡ 0 → ⊥) → 2 ≤ radix
  pub most : radix ≤ 16

-- the same behind a first digit b, which is then a zero
pub record BasedAt (s : List ℕ) (at b radix : ℕ) : Type 0 where
  pub zero : b ≡ 0x30 → Prefixed s at radix
  pub some : (radix ≡ 0 → ⊥) → b ≡ 0x30

-- the decimal digits of a number whose first digit is b: behind a zero none of those that stand there
pub record Leading (b at : ℕ) (d r : Digits) : Type 0 where
  pub zero : b ≡ 0x30 → r ≡ record { amount = record { value = 0; over = false }; next = at }
  pub other : (b ≡ 0x30 → ⊥) → r ≡ d
  pub inside : (n : ℕ) → at ≤ n → d.next ≤ n → r.next ≤ n
