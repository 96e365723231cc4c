-- What is returned and written, from what the operations answer.
-- Assumes nothing.
use Prim.Native.Nat.{ℕ, zero, suc, ◌≤◌}
use native.Mathlib.Omega.{arith}
use mathlib.Core.Path.{◌≡◌, refl, ap}
use mathlib.Core.Bool.{true, false}
use mathlib.Core.List.{List, [], ◌∷◌}
use lib.Dec.{eqb}
use lib.ListN.{length, set}
use Rattle.refusal.specs.RefusalKinds.{kind_number}
use Rattle.refusal.specs.declared.Refusal.{Refusal}
use Rattle.refusal.specs.declared.RefusalKind.{RefusalKind}
use Rattle.refusal.specs.declared.RefusalKind.TheVariants.{TooLong, NotUtf8, NoToken, UnknownWord, Dots, Float, OutOfRange, BadContent, BadIndicator, TooDeep, NotAllowed, MixedChunks, BadTypedArray, NoRoom, EndsInside, NotWellFormed, NoSuchPath}
use Rattle.outcome.specs.Outcomes.{outcome_of}
use Rattle.c_reply.specs.Replies.{code, succeeds, length_in, answer_of}
use Rattle.std.specs.Prelude.{Ok, Err}
use Rattle.std.specs.Prelude as std

-- past its end a list stays as it is
pub set_past : (v : List ℕ) (i x : ℕ) → length v ≤ i → v ≡ set v i x
set_past [] i x h = refl
set_past (y ∷ v) zero x h = absurd (omega arith)
set_past (y ∷ v) (suc i) x h = ap (λ w. y ∷ w) (set_past v i x (omega arith))

-- no refusal has the number 0
not_zero : (k : RefusalKind) → eqb (kind_number k) 0 ≡ false
unfolding kind_number
not_zero TooLong = refl
not_zero NotUtf8 = refl
not_zero NoToken = refl
not_zero UnknownWord = refl
not_zero Dots = refl
not_zero Float = refl
not_zero OutOfRange = refl
not_zero BadContent = refl
not_zero BadIndicator = refl
not_zero TooDeep = refl
not_zero NotAllowed = refl
not_zero MixedChunks = refl
not_zero BadTypedArray = refl
not_zero NoRoom = refl
not_zero EndsInside = refl
not_zero NotWellFormed = refl
not_zero NoSuchPath = refl

-- a number that is a refusal's is not 0
pub fails : {r : ℕ} (k : RefusalKind) → r ≡ kind_number k → eqb r 0 ≡ false
fails k s = rw s (not_zero k)

-- AN ANSWER
module _ {a : std.Result ℕ Refusal} where
  pub done-number : {n : ℕ} → a ≡ Ok n → 0 ≡ code (answer_of a)
  unfolding code answer_of outcome_of
  done-number e = rw e

  pub done-value : (v : List ℕ) {v' : List ℕ} {n : ℕ} → a ≡ Ok n → v' ≡ set v 0 n → v' ≡ length_in v (answer_of a)
  unfolding length_in answer_of outcome_of
  done-value v e s = rw e s

  pub refused-number : {e : Refusal} {r : ℕ} → a ≡ Err e → r ≡ kind_number e.kind → r ≡ code (answer_of a)
  unfolding code answer_of outcome_of
  refused-number e s = rw e s

  pub refused-value : (v : List ℕ) {v' : List ℕ} {e : Refusal} → a ≡ Err e → v' ≡ set v 0 e.place → v' ≡ length_in v (answer_of a)
  unfolding length_in answer_of outcome_of
  refused-value v e s = rw e s

  pub done-success : {n : ℕ} → a ≡ Ok n → true ≡ succeeds (answer_of a)
  unfolding succeeds answer_of outcome_of
  done-success e = rw e

  pub refused-success : {x : Refusal} {r : ℕ} → a ≡ Err x → r ≡ kind_number x.kind → eqb r 0 ≡ succeeds (answer_of a)
  unfolding succeeds answer_of outcome_of
  refused-success {x} e s = rw e (fails x.kind s)

pub ruleset reply_ways = (done-number, done-value, done-success, refused-number, refused-value, refused-success)
