-- Of the code: what the exported functions return, and what they write into the slice that is lent for it: as far as it reaches, since
-- `set` past the end of a list changes nothing.
use Rattle.std.specs.Prelude.{ℕ, Bool, true, false, List, [], set}
use Rattle.cbor.specs.Refusals.{Verdict, accepted, refused}
use Rattle.outcome.specs.Outcomes.{outcome_of}
use Rattle.std.specs.Prelude as std
use Rattle.refusal.specs.declared.Refusal.{Refusal}

-- 0, or the number of the refusal
unfoldable pub code : {A : Type 0} → Verdict A → ℕ
code (accepted x) = 0
code (refused n place) = n

-- whether 0 is returned: no refusal has that number
unfoldable pub succeeds : {A : Type 0} → Verdict A → Bool
succeeds (accepted x) = true
succeeds (refused n place) = false

-- the length of the result, or the place
unfoldable pub length_in : List ℕ → Verdict ℕ → List ℕ
length_in value (accepted n) = set value 0 n
length_in value (refused n place) = set value 0 place

-- an answer without its buffer
unfoldable pub answer_of : std.Result ℕ Refusal → Verdict ℕ
answer_of a = (outcome_of a []).answer
