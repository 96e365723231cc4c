-- Of the code: what the readers of integers and words say of their parts. s is a text; the definitions read it with its end mark.
use Rattle.std.specs.Prelude.{ℕ, ◌+◌, ◌-◌, ◌*◌, ◌≤◌, ◌<◌, ◌≡◌, Bool, true, false, List, ◌∷◌, Option, Some, eqb, length, drop, get_or}
use Rattle.cbor.specs.Refusals.{ok}
use Rattle.cbor.specs.Items.{Sign, unsigned, negative, simple}
use Rattle.cbor.specs.Heads.{integers, major_number}
use Rattle.cbor.specs.Flags.{sign_of}
use Rattle.notation.specs.Numbers.{number}
use Rattle.notation.specs.Classes.{is_word}
use Rattle.notation.specs.Tokens.{leaf, begins}
use Rattle.notation.specs.Cutting.{cut}
use Rattle.notation.specs.Reading.{marked}
use Rattle.numbers.specs.NumberAnswers.{DigitAt}
use Rattle.plain_leaf.specs.declared.word.SimpleWord.{SimpleWord}

-- NUMBERS

pub record IntegerMajor (minus : Bool) (r : ℕ) : Type 0 where
  pub is : r ≡ major_number (integers (sign_of minus))
  pub most : r ≤ 1

-- the argument of an integer
unfoldable pub argument_by : Sign → ℕ → ℕ
argument_by unsigned n = n
argument_by negative n = n - 1

-- a number begins at a place, and its digits at another
pub record NumberAt (s : List ℕ) (place at : ℕ) (minus : Bool) : Type 0 where
  pub there : DigitAt s at
  pub is : cut (drop place (marked s)) ≡ number (sign_of minus) (get_or s at 0) (drop (at + 1) (marked s))
  pub before : place ≤ at

-- WORDS

-- four bytes as a number
pub record Four (s : List ℕ) (at r : ℕ) : Type 0 where
  pub is : r ≡ get_or s at 0 * 0x100_0000 + get_or s (at + 1) 0 * 0x1_0000 + get_or s (at + 2) 0 * 0x100 + get_or s (at + 3) 0
  pub first : get_or s at 0 < 256
  pub second : get_or s (at + 1) 0 < 256
  pub third : get_or s (at + 2) 0 < 256
  pub fourth : get_or s (at + 3) 0 < 256

-- b does not go on behind a word, and makes no prefix of it
pub record NoWord (b : ℕ) : Type 0 where
  pub word : is_word b ≡ false
  pub quote : eqb b 0x27 ≡ false

pub record EndsWord (b : ℕ) (t : Bool) : Type 0 where
  pub is : t ≡ true → NoWord b

pub record WordEnds (s : List ℕ) (at : ℕ) (t : Bool) : Type 0 where
  pub next : ℕ
  pub rest : List ℕ
  pub left : drop at (marked s) ≡ next ∷ rest
  pub is : t ≡ true → NoWord next

-- if a word ends there, it is the simple value n
pub record Spells (s : List ℕ) (at end n : ℕ) : Type 0 where
  pub is : (b : ℕ) (r : List ℕ) → drop end (marked s) ≡ b ∷ r → NoWord b → cut (drop at (marked s)) ≡ ok (begins (leaf (simple n))) (drop end (marked s))
  pub inside : end ≤ length s
  pub ahead : at < end
  pub small : n ≤ 23

pub record KnownWord (s : List ℕ) (at : ℕ) (r : Option SimpleWord) : Type 0 where
  pub is : (w : SimpleWord) → r ≡ Some w → Spells s at w.end w.value
