-- Of the code: what the readers of leaves by their tokens say of their parts. s is a text.
use Rattle.std.specs.Prelude.{ℕ, ◌+◌, ◌≤◌, ◌<◌, ◌≡◌, Bool, true, List, length, drop}
use Rattle.notation.specs.Words.{simple_token}
use Rattle.notation.specs.Cutting.{cut}
use Rattle.notation.specs.Reading.{marked}
use Rattle.token.specs.TokenAnswers.{Says}
use Rattle.token.specs.declared.Token.{Token as Cut}
use Rattle.leaf_answer.specs.LeafAnswers.{LeafTold}
use Rattle.leaf_answer.specs.declared.LeafRead.{LeafRead as LeafS}

-- if t is the token at a place, and an integer or a simple value, it was read and written
pub record TokenTold (t : Cut) (b b' : List ℕ) (place pos : ℕ) (q : LeafS) : Type 0 where
  pub is : (s : List ℕ) → place < length s → Says s place t (cut (drop place (marked s))) → LeafTold s b b' place pos q

-- t: `simple(` stands there
pub record SimpleAt (s : List ℕ) (at : ℕ) (t : Bool) : Type 0 where
  pub is : t ≡ true → cut (drop at (marked s)) ≡ simple_token (drop (at + 6) (marked s))
  pub inside : t ≡ true → at + 6 ≤ length s
