-- How several go on: whether none is left, by the code's numbers, and what stands behind the last one.
-- Assumes nothing.
use mathlib.Core.Path.{◌≡◌, refl, sym, ap, ◌∙◌}
use mathlib.Core.Bool.{Bool, true, false, false≢true}
use mathlib.Core.List.{List, []}
use Prim.Native.Nat.{ℕ, zero, suc, ◌+◌, ◌-◌, ◌≤◌, ◌<◌}
use native.Mathlib.Nat.{add-zero}
use native.Mathlib.Omega.{arith}
use lib.Dec.{leb, eqb}
use lib.ListN.{length, drop, get_or, drop_of_length-le}
use mir.Syntax.{w64 as bits64}
use mir.Val.{Fits}
use borrow.Author.Tests.{ne_eqb, leb-true, leb-false}
use Rattle.cbor.specs.Decode.{counted, broken, ended, finished, another, step_at}
use Rattle.memory.proofs.Lists.{front}
use Rattle.memory.specs.Sums.{capped}
use Rattle.walk_answer.specs.WalkAnswers.{until_by, mode_by, behind_by, step_by, Turned}
use Rattle.walk_answer.specs.declared.Mode.{Mode}
use Rattle.walk_answer.specs.declared.Mode.TheVariants.{Counted, Broken, Ended}

-- WHETHER IT IS OVER

here : (s : List ℕ) (at : ℕ) (mode : Mode) → behind_by mode ≡ 0 → drop at s ≡ drop (at + behind_by mode) s
here s at mode e = ap (λ (k : ℕ). drop k s) (sym (ap (λ (k : ℕ). at + k) e ∙ add-zero at))

module _ {s : List ℕ} {at n : ℕ} where
  counted_over : Turned s at Counted n (eqb n 0)
  unfolding step_at step_by until_by behind_by
  counted_over = record { is = go n; inside = λ t i. omega arith }
    where
      go : (k : ℕ) → step_at (counted k) (drop at s) ≡ step_by (eqb k 0) Counted k s at
      go zero = ap finished (here s at Counted refl)
      go (suc k) =
          let f : suc k - 1 ≡ k = omega arith in
          let z : suc k ≡ 0 → ⊥ = omega arith in
          ap (λ (m : ℕ). another (counted m)) (sym f) ∙ ap (λ (t : Bool). step_by t Counted (suc k) s at) (sym (ne_eqb (suc k) 0 z))

  broken_none : length s ≤ at → Turned s at Broken n false
  unfolding step_at step_by until_by
  broken_none h = record { is = rw (drop_of_length-le s h); inside = λ t i. absurd (false≢true t) }

  broken_over : at < length s → Turned s at Broken n (eqb (get_or s at 0) 0xff)
  unfolding step_at step_by until_by behind_by
  broken_over h = record { is = rw (front s at h) (go (eqb (get_or s at 0) 0xff)); inside = λ t i. omega arith }
    where
      go : (t : Bool) → elim t [ true ↦ finished (drop (at + 1) s) | false ↦ another broken ] ≡ step_by t Broken n s at
      go true = refl
      go false = refl

  ended_over : Turned s at Ended n (leb (length s) at)
  unfolding step_at step_by until_by behind_by
  ended_over = record { is = go (leb (length s) at) refl; inside = λ t i. omega arith }
    where
      go : (t : Bool) → leb (length s) at ≡ t → step_at ended (drop at s) ≡ step_by t Ended n s at
      go true e =
          let d : drop at s ≡ [] = drop_of_length-le s (leb-true (length s) at e) in
          ap (step_at ended) d ∙ ap finished (sym d ∙ here s at Ended refl)
      go false e = let l = leb-false (length s) at e in rw (front s at l)

module _ {s : List ℕ} {at : ℕ} {mode : Mode} {n : ℕ} where
  pub over-count : mode ≡ Counted → Turned s at mode n (eqb n 0)
  over-count e = rw e counted_over

  pub over_none : mode ≡ Broken → length s ≤ at → Turned s at mode n false
  over_none e h = rw e (broken_none h)

  pub over-break : mode ≡ Broken → at < length s → Turned s at mode n (eqb (get_or s at 0) 0xff)
  over-break e h = rw e (broken_over h)

  pub over-end : mode ≡ Ended → Turned s at mode n (leb (length s) at)
  over-end e = rw e ended_over

pub ruleset over_ways = (over-count, over_none, over-break, over-end)

pub past-break : {r : ℕ} (at : ℕ) (mode : Mode) → mode ≡ Broken → r ≡ capped at 1 → r ≡ capped at (behind_by mode)
unfolding behind_by
past-break at mode e h = rw e h

pub past-none : (at : ℕ) (mode : Mode) → Fits bits64 at → (mode ≡ Broken → ⊥) → at ≡ capped at (behind_by mode)
unfolding behind_by
past-none at Counted u a = omega arith
past-none at Broken u a = absurd (a refl)
past-none at Ended u a = omega arith

pub ruleset past_ways = (past-break, past-none)

module _ (i : ℕ) where
  pub mode_open : i ≡ 31 → Broken ≡ mode_by i
  unfolding mode_by
  mode_open e = rw e

  pub mode_count : (i ≡ 31 → ⊥) → Counted ≡ mode_by i
  unfolding mode_by
  mode_count a = rw (ne_eqb i 31 a, mode_by)

pub ruleset mode_ways = (mode_open, mode_count)
