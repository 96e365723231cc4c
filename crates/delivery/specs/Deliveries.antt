-- Of the code: the first n bytes of m are laid over a buffer, if they are a result and have room.
use Rattle.std.specs.Prelude.{◌≡◌, List, ℕ}
use Rattle.outcome.specs.Outcomes.{outcome_of, laid, Holds}
use Rattle.std.specs.Prelude as std
use Rattle.refusal.specs.declared.Refusal.{Refusal}

pub record Delivered (m : List ℕ) (n : ℕ) (b b' : List ℕ) (r : std.Result ℕ Refusal) : Type 0 where
  pub is : (w : List ℕ) → Holds m n w → outcome_of r b' ≡ laid b w
