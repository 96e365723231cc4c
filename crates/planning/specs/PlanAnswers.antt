-- Of the code: what a correction plans.
use Rattle.std.specs.Prelude.{ℕ, ◌+◌, ◌-◌, ◌≤◌, min, ◌≡◌, true, false, leb}
use Rattle.cbor.specs.Decode.{most_bytes}
use Rattle.refusal.specs.declared.RefusalKind.TheVariants.{NoRoom}
use Rattle.part.specs.declared.Part.{Part}
use Rattle.std.specs.Prelude.{Ok, Err}
use Rattle.std.specs.Prelude as std
use Rattle.planning.specs.declared.Plan.{Plan}
use Rattle.refusal.specs.declared.Refusal.{Refusal}

pub record Bounded (p : Part) (used : ℕ) : Type 0 where
  pub order : p.start ≤ p.end
  pub inside : p.end ≤ used
  pub short : used ≤ most_bytes

-- the length of the result
abbrev pub length_for : Part → ℕ → ℕ → ℕ
length_for p used size = p.start + size + (used - p.end)

pub record PlanFor (p : Part) (used size room : ℕ) (d : std.Result Plan Refusal) : Type 0 where
  pub yes : leb (length_for p used size) (min room most_bytes) ≡ true → d ≡ Ok (record { start = p.start; end = p.end; size = size; length = length_for p used size })
  pub no : leb (length_for p used size) (min room most_bytes) ≡ false → d ≡ Err (record { kind = NoRoom; place = 0 })
