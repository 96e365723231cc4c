-- Of the code: what looking up answers, and what its steps say of checked bytes.
use Rattle.std.specs.Prelude.{ℕ, ◌≡◌, List, length}
use Rattle.cbor.specs.Valid.{Bytes}
use Rattle.cbor.specs.Decode.{decode}
use Rattle.walk_answer.specs.WalkAnswers.{pass_told, walk_all_of}
use Rattle.walk_answer.specs.declared.Passage.{Passage}
use Rattle.operations.specs.Operations.{look_up}
use Rattle.part.specs.PartAnswers.{locate_told, locate_of, Ordered}
use Rattle.std.specs.Prelude.{Ok}
use Rattle.std.specs.Prelude as std
use Rattle.part.specs.declared.Part.{Part}
use Rattle.refusal.specs.declared.Refusal.{Refusal}

-- what a check tells, with what is known of every slice of bytes
pub record Checks (s : List ℕ) (r : std.Result Passage Refusal) : Type 0 where
  pub is : pass_told r ≡ walk_all_of (length s) (decode s)
  pub bytes : Bytes s

-- bytes that were checked and accepted
pub record Accepts (s : List ℕ) : Type 0 where
  pub whole : Passage
  pub checks : Checks s (Ok whole)

-- where the part at a path is, or the refusal; the part is one of the bytes
pub record Parts (s path : List ℕ) (r : std.Result Part Refusal) : Type 0 where
  pub is : locate_told r ≡ locate_of (look_up s path)
  pub inside : Ordered s r
