-- What a correction comes to, before anything is written.
-- Assumes nothing.
use Prim.Native.Nat.{ℕ, zero, suc, ◌-◌, ◌≤◌, ◌<◌, min}
use native.Mathlib.Omega.{arith}
use mathlib.Core.Path.{◌≡◌, refl, sym, ◌∙◌}
use mathlib.Core.Bool.{Bool, true, false}
use mathlib.Core.List.{List, [], ◌∷◌}
use lib.Dec.{leb}
use lib.ListN.{length}
use borrow.Author.Tests.{lt-leb}
use Rattle.cbor.specs.Decode.{most_bytes, most_levels}
use Rattle.cbor.proofs.Tests.{clash}
use Rattle.refusal.specs.declared.RefusalKind.TheVariants.{NoRoom}
use Rattle.notation.specs.Places.{levels_at}
use Rattle.operations.specs.Operations.{level}
use Rattle.planning.specs.PlanAnswers.{length_for, PlanFor}
use Rattle.part.specs.declared.Part.{Part}
use Rattle.std.specs.Prelude.{Ok, Err}
use Rattle.std.specs.Prelude as std
use Rattle.planning.specs.declared.Plan.{Plan}
use Rattle.refusal.specs.declared.Refusal.{Refusal}

-- THE LEVEL
levels-length : (d : ℕ) (p : List ℕ) → levels_at d p ≡ d - length p
unfolding levels_at
levels-length d [] = omega arith
levels-length zero (k ∷ p) = omega arith
levels-length (suc d) (k ∷ p) = levels-length d p ∙ omega arith

level-length : (p : List ℕ) → level p ≡ 16 - (length p - 1)
unfolding level
level-length [] = refl
level-length (k ∷ p) = levels-length most_levels p ∙ omega arith

module _ (p : List ℕ) where
  pub level-top : length p ≤ 1 → 16 ≡ level p
  level-top h = omega (arith, level-length p)

  pub level_deep : 17 < length p → 0 ≡ level p
  level_deep h = omega (arith, level-length p)

  pub level-between : 1 < length p → 17 - length p ≡ level p
  level-between h = omega (arith, level-length p)

pub ruleset level_ways = (level-top, level_deep, level-between)

-- THE PLAN
module _ {p : Part} {used size : ℕ} (room : ℕ) where
  pub plan_long : {d : std.Result Plan Refusal} → 65535 < size → d ≡ Err (record { kind = NoRoom; place = 0 }) → PlanFor p used size room d
  plan_long {d} h e =
      let i : leb (length_for p used size) (min room most_bytes) ≡ false = lt-leb (length_for p used size) (min room most_bytes) (omega arith) in
      record { yes = λ t. absurd (clash (sym t ∙ i)); no = λ t. e }

  module _ {v : Bool} (f : v ≡ leb (length_for p used size) (min room most_bytes)) where
    pub plan_yes : v ≡ true → PlanFor p used size room (Ok (record { start = p.start; end = p.end; size = size; length = length_for p used size }))
    plan_yes t = record { yes = λ u. refl; no = λ u. absurd (clash (sym t ∙ f ∙ u)) }

    pub plan_no : {d : std.Result Plan Refusal} → v ≡ false → d ≡ Err (record { kind = NoRoom; place = 0 }) → PlanFor p used size room d
    plan_no t i = record { yes = λ u. absurd (clash (sym u ∙ sym f ∙ t)); no = λ u. i }

pub ruleset plan_ways = (plan_long, plan_yes, plan_no)
