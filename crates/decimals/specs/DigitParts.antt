-- Of the code: what the code of decimal digits says of them. s is a text; the definitions read it with its end mark.
use Rattle.std.specs.Prelude.{◌≡◌, ℕ, ◌+◌, ◌≤◌, Bool, true, false, List, ◌∷◌, length, drop, ◌==◌, nat_eq}
use Rattle.notation.specs.Numbers.{digit_value, is_digit, digits, makes_float, is_floating, no_radix, radix_of}
use Rattle.notation.specs.Reading.{marked}
use Rattle.numbers.specs.NumberAnswers.{DigitAt}

pub record Worth (b r : ℕ) : Type 0 where
  pub is : r ≡ digit_value b
  pub most : r ≤ 9
  pub zero : r ≡ 0 → b ≡ 0x30

-- b does not go on behind decimal digits: they end there, and are no float and no radix, with no indicator
pub record Outside (b : ℕ) : Type 0 where
  pub digit : is_digit 10 b ≡ false
  pub float : makes_float 10 b ≡ false
  pub mark : nat_eq b 0x5f ≡ false
  pub radix : radix_of b ≡ no_radix

pub record GoesOn (b : ℕ) (t : Bool) : Type 0 where
  pub is : t ≡ false → Outside b
  pub paren : t ≡ false → (b == 0x28) ≡ false

-- what stands at a place, and that it does not go on
pub record Ends (s : List ℕ) (at : ℕ) : Type 0 where
  pub next : ℕ
  pub rest : List ℕ
  pub left : drop at (marked s) ≡ next ∷ rest
  pub outside : Outside next

-- t: digits end there, and open no tag
pub record EndsAt (s : List ℕ) (at : ℕ) (t : Bool) : Type 0 where
  pub is : t ≡ true → Ends s at
  pub paren : (e : t ≡ true) → ((is e).next == 0x28) ≡ false

-- behind digits that make first, those up to a place, which make v with them
pub record Tally (s : List ℕ) (from first at v : ℕ) : Type 0 where
  pub counts : digits 10 first (drop from (marked s)) ≡ digits 10 v (drop at (marked s))
  pub floats : is_floating 10 (drop from (marked s)) ≡ is_floating 10 (drop at (marked s))
  pub grows : first ≤ v
  pub most : v ≤ 0xffff_ffff_ffff_ffff
  pub inside : at ≤ length s
  pub ahead : from ≤ at

-- t: if the first digit is a zero, there is no minus before it and no digit behind it
pub record Leads (b : ℕ) (minus more t : Bool) : Type 0 where
  pub unsigned : t ≡ true → b ≡ 0x30 → minus ≡ false
  pub single : t ≡ true → b ≡ 0x30 → more ≡ false

-- the place behind a sign, if there is one
pub record Behind (at : ℕ) (minus : Bool) (r : ℕ) : Type 0 where
  pub some : minus ≡ true → r ≡ at + 1
  pub none : minus ≡ false → r ≡ at

pub record DigitThere (s : List ℕ) (at : ℕ) (t : Bool) : Type 0 where
  pub is : t ≡ true → DigitAt s at
