-- Of the code: what the code that reads words answers. s is a text.
use Rattle.std.specs.Prelude.{ℕ, ◌+◌, ◌≤◌, ◌<◌, ◌≡◌, Bool, true, false, Result, Ok, Err, List, [], ◌∷◌, length, drop}
use Rattle.cbor.specs.Refusals.{unknown_word, float}
use Rattle.cbor.specs.Valid.{is_simple}
use Rattle.notation.specs.Classes.{class_number, class_of}
use Rattle.notation.specs.Numbers.{number_from}
use Rattle.notation.specs.Words.{same, false_word, true_word, null_word, undefined_word, simple_word, hex_prefix, base64_prefix, is_float_word, simple_by}
use Rattle.notation.specs.Reading.{marked}
use Rattle.scanning.specs.Stands.{span}
use Rattle.token.specs.TokenAnswers.{Says}
use Rattle.amounts.specs.AmountAnswers.{Counts}
use Rattle.amounts.specs.declared.Amount.{Amount}
use Rattle.token.specs.declared.Token.{Token as Cut}
use Rattle.words.specs.declared.WordMeaning.{WordMeaning}
use Rattle.words.specs.declared.WordMeaning.TheVariants.{Value, SimpleOf}

-- a part of a text
pub record WordPart (s : List ℕ) (from end : ℕ) : Type 0 where
  pub ahead : from ≤ end
  pub inside : end ≤ length s

-- a part with an element behind it
pub record Enclosed (s : List ℕ) (from end : ℕ) : Type 0 where
  pub ahead : from ≤ end
  pub inside : end + 1 ≤ length s

-- why a word is refused
unfoldable pub other_word : List ℕ → ℕ
other_word w = elim (is_float_word w) [ true ↦ float | false ↦ unknown_word ]

-- what a word stands for, or why it is refused
unfoldable pub value_word : List ℕ → Result WordMeaning ℕ
value_word w =
    elim (same w false_word) [
      | true ↦ Ok (Value 20)
      | false ↦ elim (same w true_word) [
        | true ↦ Ok (Value 21)
        | false ↦ elim (same w null_word) [
          | true ↦ Ok (Value 22)
          | false ↦ elim (same w undefined_word) [ true ↦ Ok (Value 23) | false ↦ elim (same w simple_word) [ true ↦ Ok SimpleOf | false ↦ Err (other_word w) ] ]
        ]
      ]
    ]

-- the form of literal that a prefix gives, 2 for `h` and 3 for `b64`, or why it is refused
unfoldable pub prefix_word : List ℕ → Result ℕ ℕ
prefix_word w = elim (same w hex_prefix) [ true ↦ Ok 2 | false ↦ elim (same w base64_prefix) [ true ↦ Ok 3 | false ↦ Err (other_word w) ] ]

-- whether an amount is a simple value
pub record Simples (a : Amount) (r : Bool) : Type 0 where
  pub is : (n : ℕ) → Counts a n → r ≡ is_simple n

pub record SimpleIn (s : List ℕ) (place from end : ℕ) (a : Amount) (t : Cut) : Type 0 where
  pub is : Counts a (number_from 10 0 (span from end (marked s))) → Says s place t (simple_by (span from end (marked s)) (drop (end + 1) (marked s)))

-- the class of the element at a place; 22: there is none
unfoldable pub front_class : List ℕ → ℕ
front_class [] = 22
front_class (b ∷ r) = class_number (class_of b)

pub record Stood (s : List ℕ) (at k : ℕ) : Type 0 where
  pub is : k ≡ front_class (drop at (marked s))
  pub inside : k < 21 → at < length s
