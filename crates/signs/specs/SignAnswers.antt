-- Of the code: what the code that cuts brackets and dots answers. s is a text.
use Rattle.std.specs.Prelude.{ℕ, ◌+◌, ◌≡◌, List, drop}
use Rattle.cbor.specs.Refusals.{ok, bind, no_token}
use Rattle.notation.specs.Scanning.{expect}
use Rattle.notation.specs.Indicators.{indicator}
use Rattle.notation.specs.Tokens.{bracket, brace, Token}
use Rattle.notation.specs.Cutting.{opening_token}
use Rattle.notation.specs.Reading.{marked}
use Rattle.token.specs.TokenAnswers.{code_of, mark_of, number_of, Written, Says}
use Rattle.token.specs.declared.Token.{Token as Cut}

-- `[` or `{`, by its code, and an indicator
pub record Opens (s : List ℕ) (place code : ℕ) (t : Cut) : Type 0 where
  pub square : code ≡ 15 → Says s place t (bind (indicator (drop (place + 1) (marked s))) (opening_token bracket))
  pub curly : code ≡ 17 → Says s place t (bind (indicator (drop (place + 1) (marked s))) (opening_token brace))

-- a token of two bytes, of which c is the second
pub record Paired (s : List ℕ) (place c code : ℕ) (t : Cut) : Type 0 where
  pub is : (tok : Token) → code ≡ code_of tok → 0 ≡ mark_of tok → 0 ≡ number_of tok → Written s t tok → Says s place t (bind (expect c no_token (drop (place + 1) (marked s))) (λ u r. ok tok r))
