-- `words::starts_with` meets its contract.
-- Assumes nothing.
use native.Mathlib.Omega.{arith}
use Rattle.words.proofs.WordCode.{starts-at}
use Rattle.words.proofs.starts_with.Goals as goal

pub returns : goal.returns
returns c = starts-at _ _ _ c.requires (λ k. let f = (c.type_inv.word k).fits in omega arith) c.starts_with.ensures.value
