-- What is returned and written, from what checking and looking up answer.
-- Assumes nothing.
use Prim.Native.Nat.{ℕ}
use native.Mathlib.Omega.{arith}
use mathlib.Core.Path.{◌≡◌, refl, ◌∙◌}
use mathlib.Core.Bool.{true}
use mathlib.Core.List.{List}
use lib.Dec.{eqb}
use lib.ListN.{set}
use Rattle.cbor.specs.Refusals.{Verdict, accepted, refused}
use Rattle.cbor.specs.Items.{Items}
use Rattle.cbor.specs.Paths.{Spot, start, end}
use Rattle.refusal.specs.RefusalKinds.{kind_number}
use Rattle.refusal.specs.declared.Refusal.{Refusal}
use Rattle.checked.specs.CheckAnswers.{check_told, check_of}
use Rattle.part.specs.PartAnswers.{locate_told, locate_of}
use Rattle.part.specs.declared.Part.{Part}
use Rattle.c_reply.specs.Replies.{code, succeeds}
use Rattle.c_reply.proofs.Replying.{fails}
use Rattle.c_place_reply.specs.PlaceReplies.{spot_in, place_in, CheckReplied, PartReplied}
use Rattle.std.specs.Prelude.{Ok, Err}
use Rattle.std.specs.Prelude as std

-- LOOKING UP
module _ {l : std.Result Part Refusal} where
  part-number : {p : Part} (w : Verdict Spot) → locate_told l ≡ locate_of w → l ≡ Ok p → 0 ≡ code w
  unfolding locate_told locate_of code
  part-number (accepted z) h e = refl
  part-number {p} (refused n q) h e = let i : locate_told (Ok p) ≡ locate_of (refused n q) = rw e at h in let z : ◌≡◌ {A = ℕ} 0 1 = cc in absurd (omega arith)

  part-value : {p : Part} (w : Verdict Spot) (v : List ℕ) {v' v'' : List ℕ} → locate_told l ≡ locate_of w → l ≡ Ok p → v' ≡ set v 0 p.start → v'' ≡ set v' 1 p.end → v'' ≡ spot_in v w
  unfolding locate_told locate_of spot_in
  part-value {p} (accepted z) v h e s t =
      let k : locate_told (Ok p) ≡ locate_of (accepted z) = rw e at h in
      let i : p.start ≡ start z = cc in
      let j : p.end ≡ end z = cc in
      rw (t, s, i, j)
  part-value {p} (refused n q) v h e s t = let i : locate_told (Ok p) ≡ locate_of (refused n q) = rw e at h in let z : ◌≡◌ {A = ℕ} 0 1 = cc in absurd (omega arith)

  lost-number : {x : Refusal} {r : ℕ} (w : Verdict Spot) → locate_told l ≡ locate_of w → l ≡ Err x → r ≡ kind_number x.kind → r ≡ code w
  unfolding locate_told locate_of code
  lost-number {x} (accepted z) h e s = let i : locate_told (Err x) ≡ locate_of (accepted z) = rw e at h in let z : ◌≡◌ {A = ℕ} 0 1 = cc in absurd (omega arith)
  lost-number {x} (refused n q) h e s =
      let k : locate_told (Err x) ≡ locate_of (refused n q) = rw e at h in
      let i : kind_number x.kind ≡ n = cc in
      s ∙ i

  lost-value : {x : Refusal} (w : Verdict Spot) (v : List ℕ) {v' : List ℕ} → locate_told l ≡ locate_of w → l ≡ Err x → v' ≡ set v 0 x.place → v' ≡ spot_in v w
  unfolding locate_told locate_of spot_in
  lost-value {x} (accepted z) v h e s = let i : locate_told (Err x) ≡ locate_of (accepted z) = rw e at h in let z : ◌≡◌ {A = ℕ} 0 1 = cc in absurd (omega arith)
  lost-value {x} (refused n q) v h e s =
      let k : locate_told (Err x) ≡ locate_of (refused n q) = rw e at h in
      let i : x.place ≡ q = cc in
      rw (s, i)

  part-success : {p : Part} (w : Verdict Spot) → locate_told l ≡ locate_of w → l ≡ Ok p → true ≡ succeeds w
  unfolding locate_told locate_of succeeds
  part-success (accepted z) h e = refl
  part-success {p} (refused n q) h e = let i : locate_told (Ok p) ≡ locate_of (refused n q) = rw e at h in let z : ◌≡◌ {A = ℕ} 0 1 = cc in absurd (omega arith)

  lost-success : {x : Refusal} {r : ℕ} (w : Verdict Spot) → locate_told l ≡ locate_of w → l ≡ Err x → r ≡ kind_number x.kind → eqb r 0 ≡ succeeds w
  unfolding locate_told locate_of succeeds
  lost-success {x} (accepted z) h e s = let i : locate_told (Err x) ≡ locate_of (accepted z) = rw e at h in let z : ◌≡◌ {A = ℕ} 0 1 = cc in absurd (omega arith)
  lost-success {x} (refused n q) h e s = fails x.kind s

  pub part_replied : {p : Part} (v : List ℕ) {v' v'' : List ℕ} → l ≡ Ok p → v' ≡ set v 0 p.start → v'' ≡ set v' 1 p.end → PartReplied l v v'' 0
  part_replied v e s t = record { number = λ w h. part-number w h e; success = λ w h. part-success w h e; value = λ w h. part-value w v h e s t }

  pub lost_replied : {x : Refusal} {r : ℕ} (v : List ℕ) {v' : List ℕ} → l ≡ Err x → r ≡ kind_number x.kind → v' ≡ set v 0 x.place → PartReplied l v v' r
  lost_replied v e s t = record { number = λ w h. lost-number w h e s; success = λ w h. lost-success w h e s; value = λ w h. lost-value w v h e t }

pub ruleset part_ways = (part_replied, lost_replied)

-- CHECKING
module _ {c : std.Result Unit Refusal} where
  fine-number : (w : Verdict Items) → check_told c ≡ check_of w → c ≡ (Ok tt) → 0 ≡ code w
  unfolding check_told check_of code
  fine-number (accepted xs) h e = refl
  fine-number (refused n q) h e = let i : check_told (Ok tt) ≡ check_of (refused n q) = rw e at h in let z : ◌≡◌ {A = ℕ} 0 1 = cc in absurd (omega arith)

  fine-value : (w : Verdict Items) (v : List ℕ) {v' : List ℕ} → check_told c ≡ check_of w → c ≡ (Ok tt) → v' ≡ set v 0 0 → v' ≡ place_in v w
  unfolding check_told check_of place_in
  fine-value (accepted xs) v h e s = s
  fine-value (refused n q) v h e s = let i : check_told (Ok tt) ≡ check_of (refused n q) = rw e at h in let z : ◌≡◌ {A = ℕ} 0 1 = cc in absurd (omega arith)

  bad-number : {x : Refusal} {r : ℕ} (w : Verdict Items) → check_told c ≡ check_of w → c ≡ Err x → r ≡ kind_number x.kind → r ≡ code w
  unfolding check_told check_of code
  bad-number {x} (accepted xs) h e s = let i : check_told (Err x) ≡ check_of (accepted xs) = rw e at h in let z : ◌≡◌ {A = ℕ} 0 1 = cc in absurd (omega arith)
  bad-number {x} (refused n q) h e s =
      let k : check_told (Err x) ≡ check_of (refused n q) = rw e at h in
      let i : kind_number x.kind ≡ n = cc in
      s ∙ i

  bad-value : {x : Refusal} (w : Verdict Items) (v : List ℕ) {v' : List ℕ} → check_told c ≡ check_of w → c ≡ Err x → v' ≡ set v 0 x.place → v' ≡ place_in v w
  unfolding check_told check_of place_in
  bad-value {x} (accepted xs) v h e s = let i : check_told (Err x) ≡ check_of (accepted xs) = rw e at h in let z : ◌≡◌ {A = ℕ} 0 1 = cc in absurd (omega arith)
  bad-value {x} (refused n q) v h e s =
      let k : check_told (Err x) ≡ check_of (refused n q) = rw e at h in
      let i : x.place ≡ q = cc in
      rw (s, i)

  fine-success : (w : Verdict Items) → check_told c ≡ check_of w → c ≡ (Ok tt) → true ≡ succeeds w
  unfolding check_told check_of succeeds
  fine-success (accepted xs) h e = refl
  fine-success (refused n q) h e = let i : check_told (Ok tt) ≡ check_of (refused n q) = rw e at h in let z : ◌≡◌ {A = ℕ} 0 1 = cc in absurd (omega arith)

  bad-success : {x : Refusal} {r : ℕ} (w : Verdict Items) → check_told c ≡ check_of w → c ≡ Err x → r ≡ kind_number x.kind → eqb r 0 ≡ succeeds w
  unfolding check_told check_of succeeds
  bad-success {x} (accepted xs) h e s = let i : check_told (Err x) ≡ check_of (accepted xs) = rw e at h in let z : ◌≡◌ {A = ℕ} 0 1 = cc in absurd (omega arith)
  bad-success {x} (refused n q) h e s = fails x.kind s

  pub fine_replied : (v : List ℕ) {v' : List ℕ} → c ≡ (Ok tt) → v' ≡ set v 0 0 → CheckReplied c v v' 0
  fine_replied v e s = record { number = λ w h. fine-number w h e; success = λ w h. fine-success w h e; value = λ w h. fine-value w v h e s }

  pub bad_replied : {x : Refusal} {r : ℕ} (v : List ℕ) {v' : List ℕ} → c ≡ Err x → r ≡ kind_number x.kind → v' ≡ set v 0 x.place → CheckReplied c v v' r
  bad_replied v e s t = record { number = λ w h. bad-number w h e s; success = λ w h. bad-success w h e s; value = λ w h. bad-value w v h e t }

pub ruleset check_ways = (fine_replied, bad_replied)
