-- Verdicts one behind another, and what an operation writes.
use Prim.Native.Nat.{ℕ, ◌+◌, ◌-◌, ◌≤◌, ◌<◌, min}
use mathlib.Core.Path.{◌≡◌, refl, sym, ap, ◌∙◌}
use mathlib.Core.Bool.{Bool, true, false}
use mathlib.Core.List.{List, [], ◌++◌, append_assoc}
use lib.Dec.{leb}
use lib.ListN.{length, take, drop, replicate}
use lib.Seq.{take_at}
use borrow.Author.Tests.{le-leb, lt-leb, leb-true}
use Rattle.cbor.specs.Refusals.{Verdict, accepted, refused, no_room}
use Rattle.cbor.specs.Decode.{most_bytes}
use Rattle.memory.specs.Buffer.{over}
use Rattle.cbor.proofs.Results.{refused_not_accepted}
use Rattle.operations.specs.Operations.{and_then, room, fitting, written, zeroed}
use Rattle.operations.specs.Demands.{Kept, Agree}

pub and_then-ok : {A B : Type 0} (v : Verdict A) (k : A → Verdict B) {y : B} → and_then v k ≡ accepted y → (x : A) × (v ≡ accepted x) × (k x ≡ accepted y)
unfolding and_then
and_then-ok (accepted x) k e = (x, refl, e)
and_then-ok (refused n q) k e = absurd (refused_not_accepted e)

pub and_then-is : {A B : Type 0} {v : Verdict A} {x : A} (k : A → Verdict B) → v ≡ accepted x → and_then v k ≡ k x
unfolding and_then
and_then-is k e = rw e

pub and_then-refused : {A B : Type 0} {v : Verdict A} {n q : ℕ} (k : A → Verdict B) → v ≡ refused n q → and_then v k ≡ refused n q
unfolding and_then
and_then-refused k e = rw e

pub fitting-yes : (buffer w : List ℕ) → length w ≤ room buffer → fitting buffer w ≡ accepted w
unfolding fitting
fitting-yes buffer w h = rw (le-leb (length w) (room buffer) h, fitting)

pub fitting-no : (buffer w : List ℕ) → room buffer < length w → fitting buffer w ≡ refused no_room 0
unfolding fitting
fitting-no buffer w h = rw (lt-leb (length w) (room buffer) h, fitting)

pub fitting-ok : (buffer w : List ℕ) {v : List ℕ} → fitting buffer w ≡ accepted v → (w ≡ v) × (length w ≤ room buffer)
unfolding fitting
fitting-ok buffer w {v} e = go (leb (length w) (room buffer)) refl e
  where
    go : (b : Bool) → leb (length w) (room buffer) ≡ b → ◌≡◌ {A = Verdict (List ℕ)} (elim b [ true ↦ accepted w | false ↦ refused no_room 0 ]) (accepted v) → (w ≡ v) × (length w ≤ room buffer)
    go true i f = (cc, leb-true (length w) (room buffer) i)
    go false i f = absurd (refused_not_accepted f)

-- only the buffer's length counts
pub fitting-same : (buffer fresh w : List ℕ) → length fresh ≡ length buffer → fitting fresh w ≡ fitting buffer w
unfolding fitting room
fitting-same buffer fresh w e = ap (λ (n : ℕ). elim (leb (length w) (min n most_bytes)) [ true ↦ accepted w | false ↦ refused no_room 0 ]) e

pub written-ok : (buffer : List ℕ) (laid : List ℕ → List ℕ) (v : Verdict (List ℕ)) {n : ℕ} → (written buffer laid v).answer ≡ accepted n → (w : List ℕ) × (v ≡ accepted w) × (length w ≡ n)
unfolding written
written-ok buffer laid (accepted w) e = (w, refl, cc)
written-ok buffer laid (refused k q) e = absurd (refused_not_accepted e)

-- what is laid over the front of a buffer stands there
front : (buffer w v : List ℕ) → take (length w) (over buffer 0 (w ++ v)) ≡ w
unfolding over
front buffer w v = ap (take (length w)) (append_assoc w v (drop (0 + length (w ++ v)) buffer)) ∙ take_at w _ (length w) refl

pub front-all : (buffer w : List ℕ) → take (length w) (over buffer 0 w) ≡ w
unfolding over
front-all buffer w = take_at w _ (length w) refl

-- one verdict, written into two buffers
pub agree_same : (buffer fresh : List ℕ) (used : ℕ) (v : Verdict (List ℕ)) → Agree (written buffer (zeroed used) v) (written fresh (λ w. w) v)
unfolding written zeroed
agree_same buffer fresh used (accepted w) =
    record {
      success = (λ e. e, λ e. e);
      lengths = λ n m e f. cc;
      bytes = λ n e f. let m : length w ≡ n = cc in rw (← m) (front buffer w (replicate (used - length w) 0) ∙ sym (front-all fresh w));
    }
agree_same buffer fresh used (refused n q) =
    record { success = (λ e. e, λ e. e); lengths = λ n m e f. absurd (refused_not_accepted e); bytes = λ n e f. absurd (refused_not_accepted e) }

-- two refusals
pub agree_refused : (buffer fresh : List ℕ) (f g : List ℕ → List ℕ) (v w : Verdict (List ℕ)) {n q m r : ℕ} → v ≡ refused n q → w ≡ refused m r → Agree (written buffer f v) (written fresh g w)
unfolding written
agree_refused buffer fresh f g v w i j =
    rw (i, j) (record {
      success = (λ e. absurd (refused_not_accepted e.1), λ e. absurd (refused_not_accepted e.1));
      lengths = λ n m e f. absurd (refused_not_accepted e);
      bytes = λ n e f. absurd (refused_not_accepted e);
    })

-- a refusal is written nowhere
pub written-kept : (buffer : List ℕ) (laid : List ℕ → List ℕ) (v : Verdict (List ℕ)) → Kept buffer (written buffer laid v)
unfolding written
written-kept buffer laid (accepted w) n q e = absurd (refused_not_accepted (sym e))
written-kept buffer laid (refused k p) n q e = refl
