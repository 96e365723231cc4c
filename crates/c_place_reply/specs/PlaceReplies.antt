-- Of the code: what checking and looking up return, and the places that they write into the slice that is lent for it.
use Rattle.std.specs.Prelude.{ℕ, ◌≡◌, List, eqb, set}
use Rattle.cbor.specs.Refusals.{Verdict, accepted, refused}
use Rattle.cbor.specs.Items.{Items}
use Rattle.cbor.specs.Paths.{Spot, start, end}
use Rattle.checked.specs.CheckAnswers.{check_told, check_of}
use Rattle.part.specs.PartAnswers.{locate_told, locate_of}
use Rattle.c_reply.specs.Replies.{code, succeeds}
use Rattle.std.specs.Prelude as std
use Rattle.part.specs.declared.Part.{Part}
use Rattle.refusal.specs.declared.Refusal.{Refusal}

-- where the part starts and ends, or the place
unfoldable pub spot_in : List ℕ → Verdict Spot → List ℕ
spot_in value (accepted z) = set (set value 0 (start z)) 1 (end z)
spot_in value (refused n place) = set value 0 place

-- 0, or the place
unfoldable pub place_in : {A : Type 0} → List ℕ → Verdict A → List ℕ
place_in value (accepted x) = set value 0 0
place_in value (refused n place) = set value 0 place

-- what is returned and written is what a verdict asks for, if the answer told it
pub record CheckReplied (c : std.Result Unit Refusal) (v v' : List ℕ) (r : ℕ) : Type 0 where
  pub number : (w : Verdict Items) → check_told c ≡ check_of w → r ≡ code w
  pub success : (w : Verdict Items) → check_told c ≡ check_of w → eqb r 0 ≡ succeeds w
  pub value : (w : Verdict Items) → check_told c ≡ check_of w → v' ≡ place_in v w

pub record PartReplied (l : std.Result Part Refusal) (v v' : List ℕ) (r : ℕ) : Type 0 where
  pub number : (w : Verdict Spot) → locate_told l ≡ locate_of w → r ≡ code w
  pub success : (w : Verdict Spot) → locate_told l ≡ locate_of w → eqb r 0 ≡ succeeds w
  pub value : (w : Verdict Spot) → locate_told l ≡ locate_of w → v' ≡ spot_in v w
