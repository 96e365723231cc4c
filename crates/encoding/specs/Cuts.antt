-- Of the code: where a token of the definitions stands. s is a text; the definitions read it with its end mark.
use Rattle.std.specs.Prelude.{ℕ, ◌≤◌, ◌<◌, ◌≡◌, List, length, drop}
use Rattle.cbor.specs.Refusals.{ok}
use Rattle.notation.specs.Tokens.{Token}
use Rattle.notation.specs.Cutting.{cut, next}
use Rattle.notation.specs.Reading.{marked}

-- the token that begins at a place, and where the text goes on behind it
pub record CutAt (s : List ℕ) (at next : ℕ) (tok : Token) : Type 0 where
  pub is : cut (drop at (marked s)) ≡ ok tok (drop next (marked s))
  pub inside : next ≤ length (marked s)
  pub ahead : at < next

-- the next token from a place on
pub record NextAt (s : List ℕ) (from next' : ℕ) (tok : Token) : Type 0 where
  pub is : next (drop from (marked s)) ≡ ok tok (drop next' (marked s))
  pub inside : next' ≤ length (marked s)
  pub ahead : from < next'
