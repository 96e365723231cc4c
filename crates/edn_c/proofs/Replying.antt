-- What is returned and written, from what the operations answer.
-- Assumes nothing.
use Prim.Native.Nat.{ℕ}
use mathlib.Core.Path.{◌≡◌, refl, ap, ◌∙◌}
use mathlib.Core.List.{List}
use lib.Dec.{eqb}
use Rattle.cbor.specs.Refusals.{Verdict}
use Rattle.cbor.specs.Items.{Items}
use Rattle.cbor.specs.Paths.{Spot}
use Rattle.operations.specs.Operations.{Outcome}
use Rattle.outcome.specs.Outcomes.{outcome_of}
use Rattle.checked.specs.CheckAnswers.{check_told, check_of}
use Rattle.part.specs.PartAnswers.{locate_told, locate_of}
use Rattle.c_reply.specs.Replies.{code, succeeds, length_in, answer_of}
use Rattle.c_place_reply.specs.PlaceReplies.{spot_in, place_in, CheckReplied, PartReplied}
use Rattle.std.specs.Prelude.{Ok, Err}
use Rattle.std.specs.Prelude as std
use Rattle.part.specs.declared.Part.{Part}
use Rattle.refusal.specs.declared.Refusal.{Refusal}

-- AN OPERATION WITH A BUFFER
answer_of_lem : (a : std.Result ℕ Refusal) (b : List ℕ) → answer_of a ≡ (outcome_of a b).answer
unfolding answer_of outcome_of
answer_of_lem (Ok n) b = refl
answer_of_lem (Err e) b = refl

buffer_of : (a : std.Result ℕ Refusal) (b : List ℕ) → b ≡ (outcome_of a b).buffer
unfolding outcome_of
buffer_of (Ok n) b = refl
buffer_of (Err e) b = refl

module _ (a : std.Result ℕ Refusal) (b : List ℕ) (o : Outcome ℕ) (h : outcome_of a b ≡ o) where
  pub whole-number : {r : ℕ} → r ≡ code (answer_of a) → r ≡ code o.answer
  whole-number s = s ∙ ap code (answer_of_lem a b ∙ ap (λ p. p.answer) h)

  pub whole-success : (r : ℕ) → eqb r 0 ≡ succeeds (answer_of a) → eqb r 0 ≡ succeeds o.answer
  whole-success r s = s ∙ ap succeeds (answer_of_lem a b ∙ ap (λ p. p.answer) h)

  pub whole-buffer : b ≡ o.buffer
  whole-buffer = buffer_of a b ∙ ap (λ p. p.buffer) h

  pub whole-value : (v : List ℕ) {v' : List ℕ} → v' ≡ length_in v (answer_of a) → v' ≡ length_in v o.answer
  whole-value v s = s ∙ ap (length_in v) (answer_of_lem a b ∙ ap (λ p. p.answer) h)

-- LOOKING UP
module _ {l : std.Result Part Refusal} {v v' : List ℕ} {r : ℕ} (w : Verdict Spot) (x : PartReplied l v v' r) (h : locate_told l ≡ locate_of w) where
  pub part-number : r ≡ code w
  part-number = x.number w h

  pub part-success : eqb r 0 ≡ succeeds w
  part-success = x.success w h

  pub part-value : v' ≡ spot_in v w
  part-value = x.value w h

-- CHECKING
module _ {c : std.Result Unit Refusal} {v v' : List ℕ} {r : ℕ} (w : Verdict Items) (x : CheckReplied c v v' r) (h : check_told c ≡ check_of w) where
  pub check_number : r ≡ code w
  check_number = x.number w h

  pub check_success : eqb r 0 ≡ succeeds w
  check_success = x.success w h

  pub check_value : v' ≡ place_in v w
  check_value = x.value w h
