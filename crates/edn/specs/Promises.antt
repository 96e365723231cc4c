-- From the papers: THE DEMANDS of the mission, over what the public functions promise. A call's answer and what the lent buffer then
-- holds are as `Operations` has them, when the function's promise holds; so each statement here is about every run of the code. Each is
-- proved in `proofs/Promises.antt` under its name in lower case.
use Rattle.std.specs.Prelude.{ℕ, ◌≤◌, ◌≡◌, ◌↔◌, List, length, take}
use Rattle.cbor.specs.Refusals.{accepted}
use Rattle.cbor.specs.Items.{Items}
use Rattle.cbor.specs.Valid.{Bytes}
use Rattle.notation.specs.Reading.{read_text}
use Rattle.operations.specs.Operations.{read, print, correct}
use Rattle.operations.specs.Demands.{Allowed, Encoded, Stored, Edit, edited_text}
use Rattle.refusal.specs.RefusalKinds.{kind_number}
use Rattle.refusal.specs.declared.Refusal.{Refusal}
use Rattle.refusal.specs.declared.RefusalKind.{RefusalKind}
use Rattle.outcome.specs.Outcomes.{outcome_of}
use Rattle.std.specs.Prelude.{Ok, Err}
use Rattle.std.specs.Prelude as std

-- the promises of `edn::read`, `edn::print` and `edn::correct`: a call with the buffer b answered r and left b'
unfoldable pub ReadRan : List ℕ → List ℕ → std.Result ℕ Refusal → List ℕ → Type 0
ReadRan text b r b' = outcome_of r b' ≡ read text b

unfoldable pub PrintRan : List ℕ → List ℕ → std.Result ℕ Refusal → List ℕ → Type 0
PrintRan bytes b r b' = outcome_of r b' ≡ print bytes b

unfoldable pub CorrectRan : List ℕ → ℕ → List ℕ → List ℕ → std.Result ℕ Refusal → List ℕ → Type 0
CorrectRan b used path text r b' = outcome_of r b' ≡ correct b used path text

-- DEMAND 1
pub record Demand1Ran : Type 0 where
  -- "A refusal is one number from the table and a place"
  pub numbers : (k : RefusalKind) → (1 ≤ kind_number k) × (kind_number k ≤ 17)
  -- "the lent output, or the bytes under correction, then hold exactly what they held before"
  pub reading : (text b b' : List ℕ) (e : Refusal) → ReadRan text b (Err e) b' → b' ≡ b
  pub printing : (bytes b b' : List ℕ) (e : Refusal) → PrintRan bytes b (Err e) b' → b' ≡ b
  pub correcting : (b : List ℕ) (used : ℕ) (path text b' : List ℕ) (e : Refusal) → CorrectRan b used path text (Err e) b' → b' ≡ b

-- DEMAND 2
pub record Demand2Ran : Type 0 where
  -- "A text is accepted exactly when document 01's rules allow it and the bytes fit."
  pub acceptance : (text b b' : List ℕ) (r : std.Result ℕ Refusal) → ReadRan text b r b' → (n : ℕ) → (r ≡ Ok n) ↔ Allowed text b n
  -- "The bytes are the CBOR of RFC 8949 with every encoding indicator obeyed."
  pub encoding : (text b b' : List ℕ) (n : ℕ) (xs : Items) → read_text text ≡ accepted xs → ReadRan text b (Ok n) b' → Encoded xs n b'
  -- "Printing accepted bytes and reading that text restores them (text at most 65,535 bytes, both fit their buffers)."
  pub round_trip : (bytes : List ℕ) → Bytes bytes → (b b' : List ℕ) (n : ℕ) → PrintRan bytes b (Ok n) b'
      → (c c' : List ℕ) (r : std.Result ℕ Refusal) → length bytes ≤ length c → ReadRan (take n b') c r c'
      → (r ≡ Ok (length bytes)) × (take (length bytes) c' ≡ bytes)

-- DEMAND 3: correcting answered c and left b', reading afresh answered r and left f'
pub record AgreeRan (c : std.Result ℕ Refusal) (b' : List ℕ) (r : std.Result ℕ Refusal) (f' : List ℕ) : Type 0 where
  -- "succeeds exactly when the edited sheet read afresh into a buffer of the same length does. Where both succeed, they give the same
  -- length"
  pub success : (n : ℕ) → (c ≡ Ok n) ↔ (r ≡ Ok n)
  -- "and the same bytes up to it."
  pub bytes : (n : ℕ) → c ≡ Ok n → take n b' ≡ take n f'

abbrev pub Demand3Ran : Type 0
Demand3Ran = (text buffer : List ℕ) (used : ℕ) (path new : List ℕ) (e : Edit text buffer used path new)
    → (c : std.Result ℕ Refusal) (b' : List ℕ) → CorrectRan buffer used path new c b'
    → (fresh f' : List ℕ) (r : std.Result ℕ Refusal) → length fresh ≡ length buffer → ReadRan (edited_text e) fresh r f'
    → AgreeRan c b' r f'

-- the bytes under correction may be those that `edn::read` wrote, moved to the front of any buffer
abbrev pub StoredRan : Type 0
StoredRan = (text b b' : List ℕ) (used : ℕ) → ReadRan text b (Ok used) b' → (buffer : List ℕ) → take used buffer ≡ take used b' → used ≤ length buffer
    → Stored text buffer used
