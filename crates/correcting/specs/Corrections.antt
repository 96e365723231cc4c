-- Of the code: what the code of correcting answers: a decision, with nothing written, and the writing.
use Rattle.std.specs.Prelude.{ℕ, ◌≤◌, min, ◌≡◌, List, true, false, leb, length, take}
use Rattle.cbor.specs.Refusals.{Verdict, accepted, refused, no_room}
use Rattle.cbor.specs.Items.{Item}
use Rattle.cbor.specs.Encode.{encode}
use Rattle.cbor.specs.Valid.{Bytes}
use Rattle.cbor.specs.Decode.{most_bytes}
use Rattle.refusal.specs.RefusalKinds.{kind_number}
use Rattle.refusal.specs.declared.Refusal.{Refusal}
use Rattle.notation.specs.Reading.{read_item}
use Rattle.encoding.specs.declared.answer.MadeItem.{MadeItem}
use Rattle.operations.specs.Operations.{and_then, look_up, correction, correct}
use Rattle.part.specs.PartAnswers.{locate_told, locate_of}
use Rattle.outcome.specs.Outcomes.{outcome_of, Holds}
use Rattle.part.specs.declared.Part.{Part}
use Rattle.planning.specs.PlanAnswers.{length_for}
use Rattle.splicing.specs.Splices.{splice, Plans}
use Rattle.std.specs.Prelude.{Ok, Err}
use Rattle.std.specs.Prelude as std
use Rattle.planning.specs.declared.Plan.{Plan}

-- where the item is, in bytes
pub record Spots (s path : List ℕ) (r : std.Result Part Refusal) : Type 0 where
  pub told : locate_told r ≡ locate_of (look_up s path)
  pub bytes : Bytes s

-- the new item's bytes, or why its text is refused
unfoldable pub NewRead : List ℕ → std.Result MadeItem Refusal → Verdict Item → Type 0
NewRead item a (accepted y) = (m : MadeItem) × (a ≡ Ok m) × (Holds item m.size (encode y)) × (m.size ≤ most_bytes → m.size ≤ length item)
NewRead item a (refused n q) = (e : Refusal) × (a ≡ Err e) × (kind_number e.kind ≡ n) × (e.place ≡ q)

pub record Newly (s : List ℕ) (levels : ℕ) (item : List ℕ) (a : std.Result MadeItem Refusal) : Type 0 where
  pub read : NewRead item a (read_item levels s)

-- what a decision comes to
unfoldable pub decision_of : List ℕ → ℕ → List ℕ → std.Result Plan Refusal → Verdict (List ℕ)
decision_of b used item (Ok p) = accepted (splice b used p.start p.end (take p.size item))
decision_of b used item (Err e) = refused (kind_number e.kind) e.place

unfoldable pub Planned : List ℕ → ℕ → List ℕ → std.Result Plan Refusal → Type 0
Planned b used item (Ok p) = Plans b used item p
Planned b used item (Err e) = Unit

-- w in the place of the item, if there is room
unfoldable pub room_for : List ℕ → Part → ℕ → ℕ → List ℕ → Verdict (List ℕ)
room_for b p used room w = elim (leb (length_for p used (length w)) (min room most_bytes)) [ true ↦ accepted (splice b used p.start p.end w) | false ↦ refused no_room 0 ]

pub record Replaces (p : Part) (used room levels : ℕ) (s item : List ℕ) (d : std.Result Plan Refusal) : Type 0 where
  pub is : (b : List ℕ) → decision_of b used item d ≡ and_then (read_item levels s) (λ y. room_for b p used room (encode y))
  pub planned : (b : List ℕ) → length b ≡ room → used ≤ room → Planned b used item d

pub record Decides (b : List ℕ) (used : ℕ) (path text item : List ℕ) (d : std.Result Plan Refusal) : Type 0 where
  pub is : decision_of b used item d ≡ correction b used path text
  pub planned : Planned b used item d

pub record Corrects (b b' : List ℕ) (used : ℕ) (path text : List ℕ) (r : std.Result ℕ Refusal) : Type 0 where
  pub is : outcome_of r b' ≡ correct b used path text
