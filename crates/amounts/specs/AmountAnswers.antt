-- Of the code: amounts, a number up to one above 2^64, which stands for all that are larger. s is a text.
use Rattle.std.specs.Prelude.{ℕ, ◌+◌, ◌*◌, ◌/◌, ◌≤◌, ◌<◌, min, ◌≡◌, Bool, true, false, List, [], ◌∷◌, length, drop}
use Rattle.cbor.specs.Widths.{w8, limit}
use Rattle.notation.specs.Numbers.{is_digit, number_from, makes_float, is_floating}
use Rattle.notation.specs.Reading.{marked}
use Rattle.scanning.specs.Stands.{span}
use Rattle.scanning.specs.ScanAnswers.{Ran}
use Rattle.amounts.specs.declared.Amount.{Amount}
use Rattle.amounts.specs.declared.Digits.{Digits}

unfoldable pub heavy : Bool → ℕ
heavy true = 0x1_0000_0000_0000_0000
heavy false = 0

pub record Counts (a : Amount) (n : ℕ) : Type 0 where
  pub is : a.value + heavy a.over ≡ min n 0x1_0000_0000_0000_0001
  pub small : a.value ≤ 0xffff_ffff_ffff_ffff

pub record Base (radix d : ℕ) : Type 0 where
  pub least : 2 ≤ radix
  pub most : radix ≤ 16
  pub digit : d < radix

-- the largest number that is in 64 bits when it is multiplied by the radix
unfoldable pub bound64 : ℕ → ℕ
bound64 radix = limit w8 / radix

-- a digit more
pub record Grown (a : Amount) (radix d : ℕ) (r : Amount) : Type 0 where
  pub is : (n : ℕ) → Counts a n → Counts r (n * radix + d)

-- whether the element behind digits makes a float of them
unfoldable pub float_at : ℕ → List ℕ → Bool
float_at radix [] = false
float_at radix (b ∷ r) = makes_float radix b

pub record ScansDigits (s : List ℕ) (at radix first : ℕ) : Type 0 where
  pub inside : at ≤ length s
  pub least : 2 ≤ radix
  pub most : radix ≤ 16
  pub start : first ≤ 99

-- the digits from at on, behind those that make first
pub record Counted (s : List ℕ) (at radix first : ℕ) (r : Digits) : Type 0 where
  pub ran : Ran s (is_digit radix) at r.next
  pub counts : Counts r.amount (number_from radix first (span at r.next (marked s)))
  pub floats : is_floating radix (drop at (marked s)) ≡ float_at radix (drop r.next (marked s))
