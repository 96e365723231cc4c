-- Of the code: bytes with others in the place of some, and the plans that lead there.
use Rattle.std.specs.Prelude.{ℕ, ◌+◌, ◌-◌, ◌≤◌, ◌≡◌, List, ◌++◌, length, take, drop}
use Rattle.cbor.specs.Decode.{most_bytes}
use Rattle.planning.specs.declared.Plan.{Plan}

-- the first `used` bytes of b, with w for those from `start` to `end`
unfoldable pub splice : List ℕ → ℕ → ℕ → ℕ → List ℕ → List ℕ
splice b used start end w = take start b ++ (w ++ drop end (take used b))

-- a plan that can be carried out
pub record Plans (b : List ℕ) (used : ℕ) (item : List ℕ) (p : Plan) : Type 0 where
  pub order : p.start ≤ p.end
  pub inside : p.end ≤ used
  pub within : used ≤ length b
  pub held : p.size ≤ length item
  pub sized : p.length ≡ p.start + p.size + (used - p.end)
  pub room : p.length ≤ length b
  pub short : p.length ≤ most_bytes
