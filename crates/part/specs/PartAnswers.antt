-- Of the code: where a part is, or its refusal, and the bytes of it.
use Rattle.std.specs.Prelude.{ℕ, ◌-◌, ◌≤◌, List, [], length, take, drop}
use Rattle.cbor.specs.Refusals.{Verdict, accepted, refused}
use Rattle.cbor.specs.Paths.{Spot, start, end}
use Rattle.refusal.specs.RefusalKinds.{kind_number}
use Rattle.std.specs.Prelude.{Ok, Err}
use Rattle.std.specs.Prelude as std
use Rattle.part.specs.declared.Part.{Part}
use Rattle.refusal.specs.declared.Refusal.{Refusal}

-- where the part starts and ends; or a refusal's number and place, of 17 the failing step
pub data LocateTold : Type 0 where
  part_found : ℕ → ℕ → LocateTold
  locate_refused : ℕ → ℕ → LocateTold

unfoldable pub locate_told : std.Result Part Refusal → LocateTold
locate_told (Ok p) = part_found p.start p.end
locate_told (Err e) = locate_refused (kind_number e.kind) e.place

unfoldable pub locate_of : Verdict Spot → LocateTold
locate_of (accepted z) = part_found (start z) (end z)
locate_of (refused n place) = locate_refused n place

-- the part is one of the bytes
unfoldable pub Ordered : List ℕ → std.Result Part Refusal → Type 0
Ordered s (Ok p) = (p.start ≤ p.end) × (p.end ≤ length s)
Ordered s (Err e) = Unit

-- the bytes of the part, none where it is refused
unfoldable pub taken : List ℕ → std.Result Part Refusal → List ℕ
taken s (Ok p) = take (p.end - p.start) (drop p.start s)
taken s (Err e) = []
