-- Of the code: what an operation answers that writes into a lent buffer, with what the buffer then holds.
use Rattle.std.specs.Prelude.{ℕ, suc, ◌*◌, ◌≤◌, min, ◌≡◌, List, length, take}
use Rattle.cbor.specs.Refusals.{accepted, refused}
use Rattle.cbor.specs.Decode.{most_bytes}
use Rattle.refusal.specs.RefusalKinds.{kind_number}
use Rattle.refusal.specs.declared.RefusalKind.{RefusalKind}
use Rattle.operations.specs.Operations.{Outcome, fitting, written}
use Rattle.std.specs.Prelude.{Ok, Err}
use Rattle.std.specs.Prelude as std
use Rattle.refusal.specs.declared.Refusal.{Refusal}

-- an answer, with what the buffer holds then
unfoldable pub outcome_of : std.Result ℕ Refusal → List ℕ → Outcome ℕ
outcome_of (Ok n) b = record { answer = accepted n; buffer = b }
outcome_of (Err e) b = record { answer = refused (kind_number e.kind) e.place; buffer = b }

pub record Refuses (k : RefusalKind) (place : ℕ) (r : std.Result ℕ Refusal) : Type 0 where
  pub is : r ≡ Err (record { kind = k; place = place })

-- bytes that fit are laid at the front of the buffer
unfoldable pub laid : List ℕ → List ℕ → Outcome ℕ
laid b w = written b (λ v. v) (fitting b w)

-- m begins with w, which has n bytes, if those are not more than a result may have
pub record Holds (m : List ℕ) (n : ℕ) (w : List ℕ) : Type 0 where
  pub sized : n ≡ length w
  pub held : n ≤ most_bytes → take n m ≡ w

-- a buffer for all that a text can make: nine bytes for each of its bytes and for its end, and no more than a result may have
pub record Roomy (s m : List ℕ) : Type 0 where
  pub room : min most_bytes (9 * suc (length s)) ≤ length m
