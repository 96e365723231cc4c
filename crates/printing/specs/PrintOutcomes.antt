-- Of the code: what the code of printing answers.
use Rattle.std.specs.Prelude.{◌≡◌, List, ℕ, IfSome, IfNone}
use Rattle.std.specs.declared.option.Option.{Option}
use Rattle.outcome.specs.Outcomes.{outcome_of}
use Rattle.operations.specs.Operations.{print}
use Rattle.std.specs.Prelude.{Ok}

-- in one pass: so many bytes are written, or nothing is told, and then the buffer is as it was
pub record AtOnce (s b b' : List ℕ) (r : Option ℕ) : Type 0 where
  pub yes : IfSome r (λ n. outcome_of (Ok n) b' ≡ print s b)
  pub no : IfNone r (b' ≡ b)
