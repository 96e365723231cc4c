-- Of the code: the text of bytes that were checked, measured, and laid into a buffer.
use Rattle.std.specs.Prelude.{◌≡◌, List, [], ℕ, length}
use Rattle.cbor.specs.Refusals.{ok}
use Rattle.cbor.specs.Items.{Items}
use Rattle.cbor.specs.Decode.{decode}
use Rattle.notation.specs.Printing.{print_text}
use Rattle.outcome.specs.Outcomes.{outcome_of, laid}
use Rattle.std.specs.Prelude as std
use Rattle.refusal.specs.declared.Refusal.{Refusal}

-- the length of a whole text
pub record TextSize (s : List ℕ) (r : ℕ) : Type 0 where
  pub size : (xs : Items) → decode s ≡ ok xs [] → r ≡ length (print_text xs)

-- the text of bytes that decode to xs
pub record Lays (s b b' : List ℕ) (r : std.Result ℕ Refusal) : Type 0 where
  pub is : (xs : Items) → decode s ≡ ok xs [] → outcome_of r b' ≡ laid b (print_text xs)
