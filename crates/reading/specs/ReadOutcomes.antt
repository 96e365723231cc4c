-- Of the code: what the code of reading answers.
use Rattle.std.specs.Prelude.{◌≡◌, List, ℕ, suc, ◌≤◌, length}
use Rattle.cbor.specs.Refusals.{ok, bind, Verdict, verdict_of}
use Rattle.cbor.specs.Items.{Items}
use Rattle.cbor.specs.Encode.{encode_all}
use Rattle.cbor.specs.Decode.{most_bytes}
use Rattle.notation.specs.Reading.{sequence}
use Rattle.operations.specs.Operations.{and_then, fitting, written}
use Rattle.outcome.specs.Outcomes.{outcome_of, Roomy}
use Rattle.std.specs.Prelude as std
use Rattle.refusal.specs.declared.Refusal.{Refusal}

-- the tokens of a text that passed, and their items
unfoldable pub items_read : List ℕ → Verdict Items
items_read s = verdict_of (suc (length s)) (bind (sequence s) (λ c r. ok c.all r))

-- a text that passed, and a buffer for its bytes
pub record Ready (s made : List ℕ) : Type 0 where
  pub short : length s ≤ most_bytes
  pub roomy : Roomy s made

pub record Encodes (s b b' : List ℕ) (r : std.Result ℕ Refusal) : Type 0 where
  pub is : outcome_of r b' ≡ written b (λ v. v) (and_then (items_read s) (λ xs. fitting b (encode_all xs)))
